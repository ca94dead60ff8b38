use Rattle.session_script.proofs.PlanesRead.{PlanesRead}
use Rattle.session_script.proofs.planes.read_planes.Given as goal

abbrev pub invariant-loop-index : goal.invariant-loop-index
invariant-loop-index l = PlanesRead l.text l.rest l.planes l.index
