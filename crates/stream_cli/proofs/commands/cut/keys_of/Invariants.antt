use Rattle.std.proofs.Common.{◌≡◌, map, take}
use Rattle.stream_cli.proofs.commands.cut.keys_of.Given as goal

-- the keys of the wants so far
abbrev pub invariant-loop-want : goal.invariant-loop-want
invariant-loop-want l = l.keys.items ≡ map (λ want. want.key) (take l.want-index l.want-items)
