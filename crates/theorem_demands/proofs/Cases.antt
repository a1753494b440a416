-- EVERY CASE OF THE TABLES of specs/Cases is right. Assumes nothing.
use mathlib.Core.List.{Memᴰ}
use Rattle.base.specs.AllLaws.{all_each}
use Rattle.theorem_demands.specs.Cases.{Case, Right, cases, shown, ended, joining, unmarked, computed}

-- EVERY CASE OF THE TABLE
pub worked : (c : Case) → Memᴰ c cases → Right c
worked c m = all_each Right cases computed.0 c m

pub shown_right : (c : Case) → Memᴰ c shown → Right c
shown_right c m = all_each Right shown computed.1 c m

pub joining_right : (c : Case) → Memᴰ c joining → Right c
joining_right c m = all_each Right joining computed.2 c m

pub unmarked_right : (c : Case) → Memᴰ c unmarked → Right c
unmarked_right c m = all_each Right unmarked computed.3 c m

pub ended_right : (c : Case) → Memᴰ c ended → Right c
ended_right c m = all_each Right ended computed.4 c m
