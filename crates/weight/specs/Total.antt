-- The exact total of a list of weights of any kind. Assumes nothing.
use Rattle.std.specs.Prelude.{List}
use Rattle.weight.specs.Kind.{total_of}
use Rattle.weight.specs.declared.kind.Weight.{Ghosts}

-- `m` is all that a program's type says of its kind of weight.
abbrev pub total_in : {W : Type 0} (m : Ghosts W) → List W → m.Value
total_in m ws = total_of m.kind m.value ws
