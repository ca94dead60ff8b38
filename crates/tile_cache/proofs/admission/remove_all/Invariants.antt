use Rattle.std.proofs.Common.{◌≡◌, filter, not, take}
use Rattle.std.specs.List.{list_any}
use Rattle.tile_cache.specs.Residents.{same_text}
use Rattle.tile_cache.proofs.admission.remove_all.Given as goal

-- what is at the addresses so far is gone
abbrev pub invariant-loop-address : goal.invariant-loop-address
invariant-loop-address l = record {
  entries : l.entries.entries ≡ filter
      (λ e. not (list_any (same_text e.0) (take l.address-index l.addresses)))
      l.initial.entries.entries;
  cap : l.entries.cap ≡ l.initial.entries.cap;
}
