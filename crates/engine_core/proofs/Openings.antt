-- An engine was just opened.
use Rattle.std.specs.Prelude.{if◌then◌else◌}
use Rattle.std.proofs.Common.{ℕ, ◌+◌, ◌^◌, ◌≤◌, ◌<◌, ◌≡◌, ◌&&◌, Bool, true, false, Ok, is_some, List, All, [], ◌∷◌, length, map, nat_le, le-leb, refl, sym, ◌∙◌, ap, subst, arith}
use Rattle.std.proofs.lemmas.List.Elements.{All-nil}
use Rattle.tile_types.specs.declared.order.Order.{Order}
use Rattle.tile_uri.specs.declared.address.TheConstants.{ADDRESS_LIMIT}
use Rattle.tile_uri.specs.Addresses.{is_address}
use Rattle.tile_uri.proofs.OwnTexts.{own_text}
use Rattle.tileset_schema.specs.Documents.{document}
use Rattle.tileset_schema.specs.Tiles.{WrittenTile}
use Rattle.doc_store.specs.declared.limits.TheConstants.{DOCUMENT_LIMIT}
use Rattle.doc_store.specs.Docs.{if_read, read_at, tileset_in}
use Rattle.doc_store.specs.Store.{IsOpened}
use Rattle.tile_cache.specs.Pins.{times}
use Rattle.engine_state.specs.declared.entry.Entry.TheVariants.{Opened}
use Rattle.engine_state.specs.State.{unopened}
use Rattle.engine_state.specs.Allowed.{is_opening}
use Rattle.engine_state.specs.After.{after}
use Rattle.engine_state.specs.Journal.{legal, replay}
use Rattle.engine_core.specs.declared.parts.Parts.{Parts}
use Rattle.engine_core.specs.Mirrors.{Lives, Mirrors, state_of}
use Rattle.engine_core.proofs.Steps.{both}

-- a document that is read is a tileset at its own address
is_tileset : (root bytes : List ℕ) (tree : WrittenTile) → is_address root ≡ true
    → length root ≤ ADDRESS_LIMIT → document bytes root ≡ Ok tree
    → is_some (tileset_in root bytes) ≡ true
unfolding tileset_in
is_tileset root bytes tree address short is =
    ap (λ a. is_some (read_at bytes a)) (own_text root (record { address = address; short = short }))
    ∙ ap (λ r. is_some (if_read r)) is

may_open : (root bytes : List ℕ) (tree : WrittenTile) → is_address root ≡ true
    → length root ≤ ADDRESS_LIMIT → length bytes ≤ DOCUMENT_LIMIT → document bytes root ≡ Ok tree
    → is_opening root bytes ≡ true
may_open root bytes tree address short within is =
    both (is_address root) _ address
    (both (nat_le (length root) ADDRESS_LIMIT) _ (le-leb _ _ short)
    (both (nat_le (length bytes) DOCUMENT_LIMIT) _ (le-leb _ _ within)
    (is_tileset root bytes tree address short is)))

and_true : (a : Bool) → a ≡ true → (a && true) ≡ true
and_true a e = ap (λ x. x && true) e

-- what is new of an engine that holds its root document alone
pub record IsNew (p : Parts) (root bytes : List ℕ) (budget : ℕ) (order : Order) : Type 0 where
  pub entries : p.entries.items ≡ Opened root bytes budget order ∷ []
  pub spare : 1 ≤ p.entries.spare
  pub closed : p.closed ≡ false
  pub looks : p.looks ≡ 0
  pub views : p.views.items ≡ []
  pub frames : p.frames.items ≡ []
  pub flying : p.flying.items ≡ []
  pub attempts : p.attempts.items ≡ []
  pub squeezed : p.squeezed.items ≡ []
  pub absent : p.absent.keys ≡ []
  pub store : IsOpened p.arena.store root bytes
  pub residents : p.cache.residents ≡ []
  pub pins : p.cache.pins ≡ []
  pub budget_is : p.cache.budget ≡ budget
  pub noted : p.noted ≡ false
  pub order_is : p.queue.order ≡ order
  pub filled : p.filled ≡ false

pub new_lives : (p : Parts) (root bytes : List ℕ) (budget : ℕ) (order : Order)
    → IsNew p root bytes budget order → is_address root ≡ true → length root ≤ ADDRESS_LIMIT
    → length bytes ≤ DOCUMENT_LIMIT → Lives p
new_lives p root bytes budget order n address short within =
    let e = Opened root bytes budget order in
    let state : state_of p ≡ after unopened e = ap replay n.entries in
    let mirrors : Mirrors (after unopened e) p = record {
      closed = n.closed;
      looks = n.looks;
      views = n.views;
      shows = record {
        held_is = n.frames;
        residents_is = sym (ap (map _) n.residents);
        pins = record { same = λ a. ap (times a) n.pins };
        budget_is = n.budget_is;
        short = subst (All (λ f. length f.addresses < 2 ^ 64)) (sym n.frames) (All-nil _);
      };
      knows = record {
        root_is = refl;
        loaded_is = n.store.alone.loaded;
        documents_is = n.store.alone.gone;
        contents_is = n.absent;
      };
      fetches = record {
        flying_is = n.flying;
        attempts_is = n.attempts;
        squeezed_is = n.squeezed;
      };
      noted = λ h. cc;
      queues = record { order_is = n.order_is; wants_are = λ h. cc };
    } in
    record {
      is_legal = ap legal n.entries
          ∙ and_true (is_opening root bytes)
          (may_open root bytes n.store.tree address short within n.store.read);
      is_opened = ap (λ s. s.opened) state;
      mirrors = subst (λ s. Mirrors s p) (sym state) mirrors;
      room = record {
        entries = subst (λ b. 0 + length p.flying.items + length p.frames.items
            + (if b then 0 else 1) ≤ p.entries.spare) (sym n.closed)
            (let fs = ap length n.flying in let hs = ap length n.frames in omega (arith, n.spare));
        attempts = let fs = ap length n.flying in omega arith;
        squeezed = let fs = ap length n.flying in omega arith;
        absent = let fs = ap length n.flying in omega arith;
        store = let fs = ap length n.flying in omega arith;
      };
      few_looks = let zero = n.looks in omega arith;
    }
