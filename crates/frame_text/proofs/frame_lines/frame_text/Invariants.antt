use Rattle.std.proofs.Common.{◌≡◌, ◌++◌, map, take}
use Rattle.frame_text.specs.Lines.{line_of}
use Rattle.frame_text.proofs.frame_lines.frame_text.Given as goal

-- a line for each content so far stands behind the first line
abbrev pub invariant-loop-content : goal.invariant-loop-content
invariant-loop-content l =
    l.lines ≡ l.initial.lines ++ map line_of (take l.content-index l.frame.shown)
