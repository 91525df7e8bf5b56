-- The problem for which a network stands.
use Rattle.structure.specs.Problem.{Problem}
use Rattle.drawing.specs.declared.network.Network.{Network}
use Rattle.drawing.specs.Sides.{problem_of}

-- the problem that was taken down
abbrev pub taken_down : Network → Problem
taken_down n = problem_of n.materials n.units n.wanted n.bought n.standing n.inputs n.outputs
