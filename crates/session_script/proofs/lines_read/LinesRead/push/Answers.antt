use Rattle.std.proofs.Common.{◌≡◌, ◌∙◌, ◌+◌, ◌<◌, ◌++◌, ◌∷◌, [], ap, length, get_or, refl, rules}
use Rattle.std.proofs.Common.{lt-ltb}
use Rattle.session_script.specs.ScriptLines.{viewers}
use Rattle.session_script.specs.declared.script_line.ScriptLine.TheVariants.{Look, Return, Settle}
use Rattle.session_script.proofs.Tallies.{held_less, held_more, looked_at, looked_kept}
use Rattle.session_script.proofs.Tallies.{unended_pushed, within_pushed}
use Rattle.session_script.proofs.lines_read.LinesRead.push.Goals as goal

pub invariant_of-self-in-Look : goal.invariant_of-self-in-Look
invariant_of-self-in-Look c =
    let old = c.args.self.now in
    let at = c.in-Look.viewer in
    let line = Look at c.in-Look.view in
    let is : c.args.line.now ≡ line = c.in-Look.is in
    let pushed : c.push.new.self ≡ old.lines ++ line ∷ [] =
    c.in_ok-push.ensures.ok ∙ ap (λ l. old.lines ++ l ∷ []) is in
    let low : at < viewers = rw is at c.requires.within in
    let long : at < length old.held = search rules in
    let more : c.one_more.result ≡ get_or old.held at 0 + 1 = c.one_more.ensures in
    record {
      within = rw pushed (within_pushed old.lines line old.within (lt-ltb at viewers low));
      unended = rw pushed (unended_pushed old.lines line old.unended refl);
      looked_is = rw pushed (looked_at old.looked old.lines at c.in-Look.view low old.looked_is);
      held_is =
          rw (pushed, more) (held_more old.held old.lines line at long (λ v. refl) (λ v. refl)
          old.held_is);
    }

pub invariant_of-self-in-Settle : goal.invariant_of-self-in-Settle
invariant_of-self-in-Settle c =
    let old = c.args.self.now in
    let at = c.in-Settle.viewer in
    let line = Settle at in
    let is : c.args.line.now ≡ line = c.in-Settle.is in
    let pushed : c.push.new.self ≡ old.lines ++ line ∷ [] =
    c.in_ok-push.ensures.ok ∙ ap (λ l. old.lines ++ l ∷ []) is in
    let low : at < viewers = rw is at c.requires.within in
    let long : at < length old.held = search rules in
    let more : c.one_more-in-Settle.result ≡ get_or old.held at 0 + 1 =
    c.one_more-in-Settle.ensures in
    record {
      within = rw pushed (within_pushed old.lines line old.within (lt-ltb at viewers low));
      unended = rw pushed (unended_pushed old.lines line old.unended refl);
      looked_is = rw pushed (looked_kept old.looked old.lines line (λ v. refl) old.looked_is);
      held_is =
          rw (pushed, more) (held_more old.held old.lines line at long (λ v. refl) (λ v. refl)
          old.held_is);
    }

pub invariant_of-self-in-Return : goal.invariant_of-self-in-Return
invariant_of-self-in-Return c =
    let old = c.args.self.now in
    let at = c.in-Return.viewer in
    let line = Return at in
    let is : c.args.line.now ≡ line = c.in-Return.is in
    let pushed : c.push.new.self ≡ old.lines ++ line ∷ [] =
    c.in_ok-push.ensures.ok ∙ ap (λ l. old.lines ++ l ∷ []) is in
    let low : at < viewers = rw is at c.requires.within in
    let long : at < length old.held = search rules in
    record {
      within = rw pushed (within_pushed old.lines line old.within (lt-ltb at viewers low));
      unended = rw pushed (unended_pushed old.lines line old.unended refl);
      looked_is = rw pushed (looked_kept old.looked old.lines line (λ v. refl) old.looked_is);
      held_is = rw pushed (held_less old.held old.lines at long low
          (rw is at c.requires.follows) old.held_is);
    }
