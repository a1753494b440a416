-- What the raw buffers hold while a job is read: the job of the file so far, word by word, and what the checks read of it.
use Rattle.std.specs.Prelude.{ℕ, ◌+◌, ◌-◌, ◌<◌, ◌≤◌, ◌≡◌, Bool, true, false, List, [], length, get_or, drop, ℤ, ltb}
use Rattle.numeric.specs.Area.{Entry, plain, area, joined, job_of}
use Rattle.memory.specs.Limits.{max_nodes, max_terms, max_thresholds, list_terms}
use Rattle.memory.specs.Buffers.{Raw, raw_lists, raw}
use Rattle.job.specs.JobBuffers.{raw_of}
use Rattle.records.specs.declared.Standing.{Standing}
use Rattle.records.specs.declared.Record.{Record}
use Rattle.records.specs.declared.Record.TheVariants.{Header, Opens, Adds, Areas, Seal, Mark, Settle, Sift, Unknown}
use Rattle.checks.specs.Next.{Taken, next_at}
use Rattle.records.specs.Facts.{within, serving}
use Rattle.checks.specs.Checks.{wrong_turn}
use Rattle.job.specs.Job.{last_list}
use Rattle.job.specs.Gathered.{job_in, Gathered, open_start, Joinable}
use Rattle.files.specs.declared.JobRead.{JobRead}
use Rattle.files.specs.File.{File, standing, apply}
use Rattle.files.specs.JobPart.{JobPart, read_job, job_part_from}

-- What the checks read behind a header.
abbrev pub headed : Standing → ℕ → Standing
headed s n = record {
  started = true;
  sealed = s.sealed;
  contradicted = s.contradicted;
  nodes = n;
  thresholds = 0;
  last_node = 0;
  last_terms = 0;
  terms = 0;
  raw_terms = 0;
  answers = s.answers;
}

-- Read up to an offset, and neither refused nor at a seal there.
abbrev pub read_to : ℕ → Standing → JobRead
read_to o s = record { at = o; refusal = 0; sealing = false; standing = s }

-- Nothing is read yet.
abbrev pub blank : Standing
blank = record { started = false; sealed = false; contradicted = false; nodes = 0; thresholds = 0; last_node = 0; last_terms = 0; terms = 0; raw_terms = 0; answers = 0 }

-- Buffers of the lengths of docs/BUFFERS.md.
pub record Room (w : Raw) : Type 0 where
  pub conditions : max_terms ≤ length w.lists.raw-conditions
  pub weights : max_terms ≤ length w.lists.raw-weights
  pub thresholds : max_thresholds ≤ length w.lists.thresholds
  pub bounds : max_thresholds ≤ length w.bounds

-- Whether a threshold is open: one that no seal has closed.
abbrev pub any_open : File → Bool
any_open f = ltb (length f.closed.thresholds) (length f.draft.thresholds)

-- Records of a job, its seal among them.
abbrev pub OfJob : Record → Type 0
OfJob (Header n) = Unit {0}
OfJob (Opens n b) = Unit {0}
OfJob (Adds c w) = Unit {0}
OfJob (Areas c a) = Unit {0}
OfJob Seal = Unit {0}
OfJob (Mark n v) = ⊥
OfJob Settle = ⊥
OfJob Sift = ⊥
OfJob Unknown = ⊥

-- What comes next, if it is taken, is of a job.
abbrev pub NextOfJob : List ℕ → ℕ → Standing → Type 0
NextOfJob bytes o s = (x : Record) → Taken x ≡ next_at s bytes o → OfJob x

-- The job of a file, laid into buffers that were w before any record.
pub record Held (f : File) (w : Raw) (s : Standing) (cs ws : List ℕ) (ts : List (List ℕ)) (bs : List ℤ) : Type 0 where
  pub stands : s ≡ standing f
  pub words : raw (raw_lists cs ws ts) bs ≡ raw_of (job_of f.draft) w
  pub job : job_in s cs ws ts bs ≡ job_of f.draft
  pub gathered : Gathered s cs ws ts bs
  pub unstarted : f.started ≡ false → f.draft.thresholds ≡ []
  pub unserved : f.started ≡ false → wrong_turn (standing f) serving ≡ true
  pub fewer : length f.closed.thresholds ≤ length f.draft.thresholds
  pub opened : wrong_turn (standing f) within ≡ false → any_open f ≡ true

-- What stands outside a list.
abbrev pub no_entry : Entry
no_entry = plain 0 0

-- What is noted of the areas in the open threshold's list, areas joined: each one's place by its condition, and its hundredths.
pub record Noted (es : List Entry) (s : Standing) (ts : List (List ℕ)) (ps ss : List ℕ) : Type 0 where
  pub joinable : Joinable s ts ps ss
  pub long : open_start s ts + length es ≡ s.raw_terms
  pub found : (c : ℕ) → open_start s ts < get_or ps c 0 → let i = get_or ps c 0 - 1 - open_start s ts in get_or es i no_entry ≡ area c (get_or ss i 0)
  pub only : (i c h : ℕ) → get_or es i no_entry ≡ area c h → get_or ps c 0 ≡ open_start s ts + i + 1

-- Notes are of the open threshold; where none is open they say nothing, and the next one can be noted.
pub record Reading (f : File) (w : Raw) (s : Standing) (cs ws : List ℕ) (ts : List (List ℕ)) (bs : List ℤ) (ps ss : List ℕ) : Type 0 where
  pub held : Held f w s cs ws ts bs
  pub joinable : Joinable s ts ps ss
  pub noted : any_open f ≡ true → Noted (joined (last_list f.draft.thresholds)) s ts ps ss

-- Nothing is noted yet.
pub record Unnoted (ps ss : List ℕ) : Type 0 where
  pub places : max_nodes ≤ length ps
  pub sums : list_terms ≤ length ss
  pub blank : (c : ℕ) → get_or ps c 0 ≡ 0

-- Whatever file the buffers held, they hold it with the record done; and then marks, settles and sifts are not in their turn.
pub record Takes (x : Record) (s : Standing) (cs ws : List ℕ) (ts : List (List ℕ)) (bs : List ℤ) (ps ss : List ℕ)
    (r : Standing) (cs' ws' : List ℕ) (ts' : List (List ℕ)) (bs' : List ℤ) (ps' ss' : List ℕ) : Type 0 where
  pub done : (f : File) (w : Raw) → Room w → Reading f w s cs ws ts bs ps ss → Reading (apply f x) w r cs' ws' ts' bs' ps' ss'
  pub building : (f : File) (w : Raw) → Reading f w s cs ws ts bs ps ss → wrong_turn r serving ≡ true

-- What was read, as the code gives it back: each equals what the definition gives.
pub record HeldPart (j : JobPart) (w : Raw) (r : JobRead) (cs ws : List ℕ) (ts : List (List ℕ)) (bs : List ℤ) : Type 0 where
  pub refusal : r.refusal ≡ j.refused
  pub at : r.at ≡ j.at
  pub sealing : r.sealing ≡ j.sealing
  pub held : Held j.file w r.standing cs ws ts bs

-- The same of one record at an offset, whatever file the buffers held; and what is noted then.
pub record ReadPart (j : JobPart) (w : Raw) (r : JobRead) (cs ws : List ℕ) (ts : List (List ℕ)) (bs : List ℤ) (ps ss : List ℕ) : Type 0 where
  pub part : HeldPart j w r cs ws ts bs
  pub joinable : Joinable r.standing ts ps ss
  pub noted : any_open j.file ≡ true → Noted (joined (last_list j.file.draft.thresholds)) r.standing ts ps ss
  pub building : r.refusal ≡ 0 → r.sealing ≡ false → wrong_turn r.standing serving ≡ true

pub record Reads (bytes : List ℕ) (o : ℕ) (s : Standing) (cs ws : List ℕ) (ts : List (List ℕ)) (bs : List ℤ) (ps ss : List ℕ)
    (r : JobRead) (cs' ws' : List ℕ) (ts' : List (List ℕ)) (bs' : List ℤ) (ps' ss' : List ℕ) : Type 0 where
  pub part : (f : File) (w : Raw) → Room w → Reading f w s cs ws ts bs ps ss → ReadPart (read_job 1 o (drop o bytes) f []) w r cs' ws' ts' bs' ps' ss'

-- Between two records: some number of records is enough, and reading on from here gives the whole.
pub record Going (bytes : List ℕ) (whole : JobPart) (w : Raw) (r : JobRead) (cs ws : List ℕ) (ts : List (List ℕ)) (bs : List ℤ) (ps ss : List ℕ) : Type 0 where
  pub file : File
  pub taken : List Record
  pub left : ℕ
  pub enough : length bytes ≤ left + r.at
  pub same : read_job left r.at (drop r.at bytes) file taken ≡ whole
  pub reading : Reading file w r.standing cs ws ts bs ps ss
  pub builds : NextOfJob bytes r.at r.standing
  pub refusal : r.refusal ≡ 0
  pub sealing : r.sealing ≡ false

-- The same from an offset on, whatever file the buffers held there.
pub record GoesFrom (bytes : List ℕ) (o : ℕ) (s : Standing) (cs ws : List ℕ) (ts : List (List ℕ)) (bs : List ℤ) (ps ss : List ℕ)
    (r : JobRead) (cs' ws' : List ℕ) (ts' : List (List ℕ)) (bs' : List ℤ) (ps' ss' : List ℕ) : Type 0 where
  pub going : (f : File) (w : Raw) → Room w → Reading f w s cs ws ts bs ps ss → Going bytes (job_part_from bytes o f []) w r cs' ws' ts' bs' ps' ss'

-- What reading from there on gives, whatever file the buffers held.
pub record ReadsOn (bytes : List ℕ) (o : ℕ) (s : Standing) (cs ws : List ℕ) (ts : List (List ℕ)) (bs : List ℤ) (ps ss : List ℕ)
    (r : JobRead) (cs' ws' : List ℕ) (ts' : List (List ℕ)) (bs' : List ℤ) : Type 0 where
  pub part : (f : File) (w : Raw) → Room w → Reading f w s cs ws ts bs ps ss → HeldPart (job_part_from bytes o f []) w r cs' ws' ts' bs'

-- The same of buffers whose file has no threshold open, so that notes start anew.
pub record ReadsJob (bytes : List ℕ) (o : ℕ) (s : Standing) (cs ws : List ℕ) (ts : List (List ℕ)) (bs : List ℤ)
    (r : JobRead) (cs' ws' : List ℕ) (ts' : List (List ℕ)) (bs' : List ℤ) : Type 0 where
  pub part : (f : File) (w : Raw) → Room w → Held f w s cs ws ts bs → any_open f ≡ false → HeldPart (job_part_from bytes o f []) w r cs' ws' ts' bs'
