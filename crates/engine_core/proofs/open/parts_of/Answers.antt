use Rattle.std.proofs.Common.{[], ◌∷◌, ◌++◌, refl, sym, ◌∙◌, ap, subst, arith}
use Rattle.std.proofs.lemmas.Grind.{common_steps}
use Rattle.doc_store.specs.Store.{IsOpened}
use Rattle.engine_state.specs.declared.entry.Entry.TheVariants.{Opened}
use Rattle.engine_core.proofs.Openings.{new_lives}
use Rattle.engine_core.proofs.open.parts_of.Goals as goal

pub returns-clause-lives : goal.returns-clause-lives
returns-clause-lives c =
    let a = c.args in
    new_lives _ a.root a.bytes a.budget a.order
    (record {
      entries = c.push_reserved.ensures.items
          ∙ ap (λ xs. xs ++ Opened a.root a.bytes a.budget a.order ∷ [])
          (c.reserve.ensures.items ∙ c.new-entries.ensures);
      spare = grind (arith, common_steps);
      closed = refl;
      looks = refl;
      views = c.new-3.ensures.items;
      frames = c.new-4.ensures;
      flying = c.new-5.ensures;
      attempts = c.new-6.ensures;
      squeezed = c.new-7.ensures;
      absent = c.new-8.ensures.empty;
      store = subst (λ store. IsOpened store a.root a.bytes) (sym c.in_ok-arena.ensures.store)
          c.requires.opened;
      residents = c.in_ok-cache.ensures.residents;
      pins = c.in_ok-cache.ensures.pins;
      budget_is = c.in_ok-cache.ensures.budget;
      noted = refl;
      order_is = c.new-10.ensures.order;
      filled = refl;
    })
    c.requires.address c.requires.short c.requires.within
