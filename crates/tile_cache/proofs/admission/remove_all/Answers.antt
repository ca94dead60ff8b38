use Rattle.std.proofs.Common.{◌∙◌, ap, refl, get_or}
use Rattle.std.specs.Map.{remove_entry}
use Rattle.tile_cache.specs.Residents.{same_text}
use Rattle.tile_cache.proofs.Removing.{all_left, one_less}
use Rattle.tile_cache.proofs.admission.remove_all.Goals as goal

pub loop-address-init : goal.loop-address-init
loop-address-init c = record { entries = all_left c.args.entries.now.entries; cap = refl }

pub loop-address-preserved : goal.loop-address-preserved
loop-address-preserved c =
    let addresses = c.args.addresses.now in
    let i = c.loop-address.address-index in
    let address = c.address-item.result in
    record {
      entries =
          ap (λ k. k.entries) c.pop.ensures.entries
          ∙ ap (λ a. remove_entry (same_text a) c.loop-address.entries.entries) c.address-item.is
          ∙ ap (remove_entry (same_text (get_or addresses i address)))
          c.loop-address.invariant.entries
          ∙ one_less c.args.entries.now.entries addresses i address c.loop-address-test.true
          c.len.ensures.valid.0;
      cap = ap (λ k. k.cap) c.pop.ensures.entries ∙ c.loop-address.invariant.cap;
    }
