use Rattle.std.proofs.lemmas.List.Filters.{FiltersInPlace}
use Rattle.steps.specs.Rewriting.{is_other}
use Rattle.rewriting.proofs.keep_others.Given as goal

abbrev pub invariant-loop-i : goal.invariant-loop-i
invariant-loop-i l = FiltersInPlace (is_other l.w) l.initial.words l.words l.count l.i
