-- WHICH DEMANDS ARE MET: a value of the type that states each. The proofs stand in the files named `Laws` beside this one and in specs/, and in `theorem_ends`.
use Rattle.numeric.proofs.AreaLaws as AreaLaws
use Rattle.numeric.proofs.LeastLaws as LeastLaws
use Rattle.searches.proofs.SearchLaws as SearchLaws
use Rattle.job.specs.JobLaws.{last_added, all_added}
use Rattle.files.specs.File.{act}
use Rattle.theorem_limits.specs.FilesLaws as Files
use Rattle.theorem_table.proofs.TableLaws as Table
use Rattle.theorem_demands.specs.Demands.{Demand1, Demand2, Demand3, AreasAdded, UnmarkedHasLayout, Call, ClauseA, PublicCall, ClauseC}
use Rattle.theorem_demands.specs.RefusalLaws as Refusals
use Rattle.theorem_demands.specs.ReadLaws as Reads
use Rattle.theorem_demands.specs.ForcedLaws as Forced
use Rattle.theorem_demands.specs.SettleLaws as Settles
use Rattle.theorem_demands.specs.MarksLaws as Marks
use Rattle.theorem_demands.specs.OrderLaws as Order
use Rattle.theorem_demands.proofs.CallLaws as Calls
use Rattle.theorem_demands.proofs.UnmarkedLaws as Unmarked
use Rattle.theorem_demands.specs.MemoryLaws as Memory
use Rattle.theorem_demands.specs.LengthLaws as Lengths
use Rattle.theorem_demands.proofs.PublicLaws as Public
use Rattle.theorem_demands.specs.PassesLaws as Passes
use Rattle.theorem_demands.proofs.ShutOutLaws as ShutOut

-- DEMAND 1, whole
pub demand1 : Demand1
demand1 = record {
  numbers = Refusals.numbers;
  refused = Refusals.refused;
  ten = Refusals.ten;
  ten_touches_nothing = Refusals.ten_touches_nothing;
  spelled = Reads.spelled;
  taken = Refusals.taken;
  passed = Files.planned_passed;
  read_all = Reads.read_all;
  first-check = Reads.first-check;
  ends = Files.ends;
  sift-ends = Files.sift-ends;
}

-- DEMAND 2, whole
pub demand2 : Demand2
demand2 = record {
  closed_job = Refusals.closed_job;
  forced_sure = Forced.forced_sure;
  forced_never = Forced.forced_never;
  no_layout = Forced.no_layout;
  search_exact = SearchLaws.search_exact;
  cut_short = SearchLaws.cut_short;
}

-- DEMAND 3, whole
pub demand3 : Demand3
demand3 = record {
  one_end = λ rows s t u a b. Table.one_end rows a b;
  seals = Settles.seals;
  marks = Settles.marks;
  settles = Settles.settles;
  settles_from_marks = Marks.settles_from_marks;
  order_does_not_matter = Order.order_does_not_matter;
  accepted_pass = Passes.accepted_pass;
}

-- AREAS, whole
pub areas_added : AreasAdded
unfolding act
areas_added = record {
  added = AreaLaws.joined_adds;
  nothing_else = AreaLaws.joined_single;
  once = AreaLaws.single_joined;
  sums = AreaLaws.sum_stays;
  counted = λ f x h. let d = f.draft in (last_added x d.thresholds h, all_added x d.thresholds h);
}

-- UNMARKED JOBS, whole
pub unmarked_has_layout : UnmarkedHasLayout
unmarked_has_layout = record {
  layout = LeastLaws.least_layout_lem;
  least = LeastLaws.least_below;
  files = Unmarked.layouts;
  fine = Unmarked.fine;
  not_nine = Unmarked.not_nine;
  call_fine = Unmarked.call_fine;
  call-not_nine = Unmarked.call-not_nine;
}

-- BOTH DEMANDS, of the call and the words in its buffers
pub call : Call
call = record {
  forced_sure = Calls.forced_sure;
  forced_never = Calls.forced_never;
  no_layout = Calls.no_layout;
  seals = Calls.seals;
  marks = Calls.marks;
  settles = Calls.settles;
  settles_from_marks = Calls.settles_from_marks;
  order_does_not_matter = Calls.order_does_not_matter;
}

-- CLAUSE A, whole
pub clause_a : ClauseA
clause_a = record { memory = Memory.memory; lengths = Lengths.lengths; files = Refusals.files }

-- BOTH, of the public call
pub public_call : PublicCall
public_call = record {
  numbers = Public.numbers;
  refused = Public.refused;
  ten = Public.ten;
  ten_touches_nothing = Public.ten_touches_nothing;
  memory = Public.memory;
  lengths = Public.lengths;
  files = Public.files;
  as_whole = Public.as_whole;
  rows = Public.rows;
}

-- CLAUSE C, whole
pub clause_c : ClauseC
clause_c = record {
  cuts_each_search = ShutOut.cuts_each_search;
  invents_visits = ShutOut.invents_visits;
  sift_visits = ShutOut.sift_visits;
  visits_allowed = SearchLaws.search_visits_lem;
  drains_one_node = ShutOut.drains_one_node;
  leaves_all_undecided = ShutOut.leaves_all_undecided;
  always_contradicts = ShutOut.always_contradicts;
  refuses_each_file = ShutOut.refuses_each_file;
}
