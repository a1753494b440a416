-- An entry as the term that stands for it: an area by its weight. What the rewriting of a file with areas writes.
use Rattle.numeric.specs.Area.{Entry, plain, area, weight_of_area}

abbrev pub as_term : Entry → Entry
as_term (plain c w) = plain c w
as_term (area c h) = plain c (weight_of_area h)
