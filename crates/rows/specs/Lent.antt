-- A row's terms that are lent.
use Rattle.std.specs.Prelude.{List}
use Rattle.numeric.specs.Threshold.{Term}
use Rattle.numeric.specs.Slices.{terms}
use Rattle.rows.specs.declared.Terms.{Terms}

abbrev pub terms_of : Terms → List Term
terms_of t = terms t.conditions.now t.weights.now
