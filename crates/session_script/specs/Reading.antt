-- What is left of a script while it is read line by line.
use Rattle.std.specs.Prelude.{◌≡◌, ℕ, ◌+◌, ◌==◌, ◌&&◌, nat_lt, List, [], ◌∷◌, ◌++◌, length}
use Rattle.std.specs.Prelude.{Result, Ok, Err, if◌then◌else◌}
use Rattle.session_script.specs.Scripts.{before_end, count_in_order, lines_of}
use Rattle.session_script.specs.declared.script.Script.{Script}
use Rattle.session_script.specs.declared.script.ScriptError.{ScriptError}
use Rattle.session_script.specs.declared.script.ScriptError.TheVariants.{Line, OutOfMemory}
use Rattle.session_script.specs.declared.script_line.ScriptLine.{ScriptLine}
use Rattle.session_script.specs.declared.script_line.ScriptLine.TheVariants.{End}
use Rattle.session_script.specs.declared.step.Step.{Step}
use Rattle.session_script.specs.declared.step.Step.TheVariants as step

-- a script, or the number of a line
abbrev pub Found : Type 0
Found = Result (List ScriptLine) ℕ

-- the script of lines that were read and of the texts behind them, where lines count from these texts
abbrev pub script_behind : List ScriptLine → List (List ℕ) → Found
script_behind earlier texts =
    let front = before_end texts in
    let good = count_in_order earlier front in
    if (good == length front) && nat_lt good (length texts)
    then Ok (earlier ++ lines_of front ++ End ∷ []) else Err (good + 1)

-- the same, so many lines further up
abbrev pub later : ℕ → Found → Found
later count (Ok script) = Ok script
later count (Err number) = Err (count + number)

-- behind the old lines a text is such a step, which leaves the new ones
abbrev pub Steps : List ScriptLine → List ℕ → List ScriptLine → Step → Type 0
Steps old text new step.More =
    (texts : List (List ℕ)) → script_behind old (text ∷ texts) ≡ later 1 (script_behind new texts)
Steps old text new step.End =
    (texts : List (List ℕ)) → script_behind old (text ∷ texts) ≡ Ok (new ++ End ∷ [])
Steps old text new step.Bad =
    (texts : List (List ℕ)) → script_behind old (text ∷ texts) ≡ Err 1

-- the answer is the script, or the number of the line, unless memory ran out
abbrev pub Answers : Result Script ScriptError → Found → Type 0
Answers (Ok script) found = found ≡ Ok script.lines
Answers (Err (Line number)) found = found ≡ Err number
Answers (Err OutOfMemory) found = Unit {0}
