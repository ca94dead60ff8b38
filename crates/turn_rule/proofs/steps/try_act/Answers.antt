use Rattle.std.proofs.Common.{rules, ◌≡◌, ◌∷◌, ◌++◌, [], Some, ap, ◌∙◌, sym, arith}
use Rattle.atomic_table.specs.Table.{rest}
use Rattle.turn_rule.specs.Journal.{list_of, entries_of}
use Rattle.turn_rule.specs.Seats.{grown_view}
use Rattle.turn_rule.proofs.Lists.{own_is, entries_listed}
use Rattle.turn_rule.proofs.Allowed.{tries, rejoins, first_held}
use Rattle.turn_rule.proofs.steps.try_act.Goals as goal

pub compare_exchange-requires : goal.compare_exchange-requires
compare_exchange-requires g c =
    let three = c.requires.table.three_words in
    let rests = c.requires.rests in
    (c.requires.table.same, omega arith, tries _ _ _ _ _ _ _ _ rests.has_number rests.here)

pub exchange-requires : goal.exchange-requires
exchange-requires g c =
    let won = c.compare_exchange.ensures.2.0 c.if-compare_exchange-ne0.false in
    let slots = ap (λ m. m.1) won.1 in
    (c.compare_exchange.ensures.0 ∙ c.requires.table.same, (Some won.0, first_held slots))

pub store-requires : goal.store-requires
store-requires g c =
    let k = g.K.Kept in
    let won = c.compare_exchange.ensures.2.0 c.if-compare_exchange-ne0.false in
    let out = c.exchange.ensures.3 in
    let grown = c.account.ensures.me in
    let home = c.exchange-out.ensures.3 in
    let state = c.act-answer.new.state in
    let acted = c.act-answer.ensures in
    let log = k.journal state in
    let three = c.requires.table.three_words in
    let taken : c.unwrap-state.result ≡ won.0 = search rules in
    let own = entries_of k.names c.args.number log in
    let view = ap (λ m. m.0) home ∙ (ap (λ m. m.0) grown
    ∙ (ap (λ m. grown_view m.0 log own) out ∙ ap (λ m. grown_view m.0 log own) won.1)) in
    let rest_won : rest c.compare_exchange.new.seat.me.1 ≡ [] =
    ap (λ m. rest m.1) won.1 ∙ c.requires.rests.empty in
    let rest_out : rest c.exchange.new.seat.me.1 ≡ [] = ap (λ m. rest m.1) out ∙ rest_won in
    let rest_grown : rest c.account.new.seat.me.1 ≡ [] = ap (λ m. rest m.1) grown ∙ rest_out in
    let carries = ap (λ m. m.1) home
    ∙ ap (λ l. (0, Some record { state = state; book = c.account.new.book }) ∷ l) rest_grown in
    let same = c.compare_exchange.ensures.0 ∙ c.requires.table.same in
    let library = acted.library ∙ (ap (λ h. k.library h.state) taken
    ∙ (won.2.library ∙ sym (ap (λ v. v.library) view))) in
    let room = acted.room ∙ (ap (λ h. k.room h.state) taken
    ∙ (won.2.room ∙ sym (ap (λ v. v.room) view))) in (
      c.exchange-out.ensures.0 ∙ (c.account.ensures.seat.0 ∙ (c.exchange.ensures.0 ∙ same)),
      omega arith,
      rejoins _ _ _ _ _ _ _ log _
          (ap (λ v. v.held) view) (ap (λ v. v.spent) view ∙ c.requires.rests.here) carries
          (λ i. record {
            log = log;
            library = library i;
            room = room i;
            total = c.account.ensures.total i;
          })
          acted.sound,
    )

pub returns-clause-ok : goal.returns-clause-ok
returns-clause-ok g c =
    let k = g.K.Kept in
    let won = c.compare_exchange.ensures.2.0 c.if-compare_exchange-ne0.false in
    let grown = c.account.ensures.me in
    let home = c.exchange-out.ensures.3 in
    let old = k.journal c.unwrap-state.result.state in
    let new = k.journal c.act-answer.new.state in
    let acted = c.act-answer.ensures in
    let taken : c.unwrap-state.result ≡ won.0 = search rules in
    let log_is = ap (λ h. k.journal h.state) taken in
    let view = ap (λ m. m.0) home ∙ ap (λ m. m.0) grown in
    let end = c.store.ensures.2 new (ap (λ v. v.held) view) in
    let own = ap (λ m. m.0.own) end ∙ ap (λ v. v.own) view in
    let number = c.args.number in
    let mine = ap (entries_of k.names number) log_is
    ∙ sym (own_is k.names _ _ _ _ _ c.requires.rests.has_number won.2.told) in
    let listed = entries_listed k.names number old acted.entry.0 acted.entry.2 in
    let library = ap (λ h. k.library h.state) taken ∙ won.2.library in
    let room = ap (λ h. k.room h.state) taken ∙ won.2.room in
    record {
      log = old;
      entry = acted.entry.0;
      begins = search rules;
      mine = mine;
      was_lawful = search rules;
      sees = ap (λ m. m.0.seen) end ∙ acted.entry.1;
      gains = own ∙ (ap (entries_of k.names number) acted.entry.1
          ∙ (listed ∙ ap (λ l. l ++ list_of acted.entry.0) mine));
      by = acted.entry.2;
      is_lawful = search rules;
      answers = search rules;
    }
