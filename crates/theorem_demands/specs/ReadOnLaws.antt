-- What the records of a whole input have to do with those that were taken: they begin with them, and go on behind a refusal 9 only
-- where one of them contradicted. The job of a sealed file is the one that is read on to the end.
use Rattle.std.specs.Prelude.{ℕ, zero, suc, ◌+◌, ◌≡◌, Bool, true, false, ◌||◌, List, [], ◌∷◌, ◌++◌, ◌⊎◌, ◌≢◌, length, drop, eqb, leb, ltb}
use Rattle.std.proofs.Common.{arith, ◌∙◌, append_assoc, append-nil, inl, inr, ⊎_elim}
use Rattle.std.proofs.Math.Path.{refl, sym, ap}
use Rattle.std.proofs.lemmas.Bool.{eqb-false}
use Rattle.base.specs.TestLaws.{clash}
use Rattle.numeric.specs.Area.{Draft}
use Rattle.records.specs.declared.Record.{Record}
use Rattle.records.specs.Record.{kind_of, body_length}
use Rattle.records.specs.Facts.{Action, begins, changes, closes, decides, settles, sifts, idles, action, facts}
use Rattle.checks.specs.Checks.{any_of, wrong_turn, not_rising, bad_bound, too_many, Check, check, first}
use Rattle.job.specs.Job.{with_change}
use Rattle.files.specs.File.{File, contradicted, begun, standing, refusal, sealed_file, marked_file, settled_file, sifted_file, act, apply, Outcome, outcome, record_at, unknown_kind, cut_body, refusal_at, read_from, file_of, planned, after}
use Rattle.theorem_limits.specs.FilesLaws.{both, Taken, taken, building_turn, change_turn, serving_turn, refused_by_lem}
use Rattle.theorem_demands.specs.Reading.{Decoded, records, damaged, decode_from, decoded, plain, plainly, plainly_all, Passes}

-- ---- READING

list_of : Decoded → List Record
list_of (records rs) = rs
list_of damaged = []

is_whole : Decoded → Bool
is_whole (records rs) = true
is_whole damaged = false

records_same : (rs qs : List Record) → records rs ≡ records qs → rs ≡ qs
unfolding list_of
records_same rs qs e = ap list_of e

not_damaged : (rs : List Record) → damaged ≡ records rs → ⊥
unfolding is_whole
not_damaged rs e = clash false (ap is_whole e) refl

-- what is taken stands first
extends : (n : ℕ) (bytes : List ℕ) (done all : List Record) → decode_from n bytes done ≡ records all → (rest : List Record) × (all ≡ done ++ rest)
unfolding decode_from
extends zero bytes done all e = ([], sym (records_same done all e) ∙ sym (append-nil done))
extends (suc n) [] done all e = ([], sym (records_same done all e) ∙ sym (append-nil done))
extends (suc n) (kind ∷ bytes) done all e = by (λ b t q. extends n b t all q) (unknown_kind kind || cut_body kind bytes) e
  where
    x : Record
    x = record_at kind bytes

    by : ((b : List ℕ) (t : List Record) → decode_from n b t ≡ records all → (rest : List Record) × (all ≡ t ++ rest)) → (c : Bool)
        → ◌≡◌ {A = Decoded} (elim c [ true ↦ damaged | false ↦ decode_from n (drop (body_length (kind_of kind)) bytes) (done ++ (x ∷ [])) ]) (records all) → (rest : List Record) × (all ≡ done ++ rest)
    by ih true q = absurd (not_damaged all q)
    by ih false q = let a = ih _ _ q in (x ∷ a.0, a.1 ∙ append_assoc done (x ∷ []) a.0)

-- 9 is given only behind a contradiction
skip : (b : Bool) (n : ℕ) (cs : List Check) → n ≢ 9 → first (check b n ∷ cs) ≡ 9 → first cs ≡ 9
unfolding first
skip true n cs h e = absurd (h e)
skip false n cs h e = e

nine : (b : Bool) (cs : List Check) → first (check b 9 ∷ cs) ≡ 9 → (b ≡ true) ⊎ (first cs ≡ 9)
unfolding first
nine true cs e = inl refl
nine false cs e = inr e

none_nine : first [] ≡ 9 → ⊥
unfolding first
none_nine e = omega arith

refusal_nine : (f : File) (r : Record) → refusal f r ≡ 9 → contradicted f ≡ true
unfolding refusal
refusal_nine f r h =
    let s = standing f in
    let x = facts (action r) in
    ⊎_elim (λ (e : contradicted f ≡ true). e)
    (λ e. absurd (none_nine (skip (too_many s x.counts) 4 _ (λ q. omega arith) (skip (any_of (ltb 1) x.values) 8 _ (λ q. omega arith)
    (skip (any_of bad_bound x.bounds) 7 _ (λ q. omega arith) (skip (any_of (not_rising s) x.rising) 6 _ (λ q. omega arith)
    (skip (any_of (leb s.nodes) x.nodes) 5 _ (λ q. omega arith) e)))))))
    (nine (contradicted f) _ (skip (wrong_turn s x.turn) 3 _ (λ q. omega arith) (skip false 1 _ (λ q. omega arith) (skip false 2 _ (λ q. omega arith) h))))

pub refused_nine : (f : File) (kind : ℕ) (bytes : List ℕ) → refusal_at f kind bytes ≡ 9 → contradicted f ≡ true
refused_nine f kind bytes h = refusal_nine f (record_at kind bytes) (refused_by_lem 9 (λ q. omega arith) (λ q. omega arith) f kind bytes h)

-- An outcome over all records of an input.
pub record Over (all : List Record) (o : Outcome) : Type 0 where
  pub rest : List Record
  pub begins : all ≡ o.records ++ rest
  pub accepted : o.refused ≡ 0 → all ≡ o.records
  pub broken : o.refused ≡ 9 → contradicted o.file ≡ true

ended : (f : File) (done all : List Record) (o : ℕ) → all ≡ done → Over all (outcome f done 0 o)
ended f done all o e = record { rest = []; begins = e ∙ sym (append-nil done); accepted = λ q. e; broken = λ q. absurd (omega arith) }

read_over : (n o : ℕ) (bytes : List ℕ) (f : File) (done all : List Record) → decode_from n bytes done ≡ records all → Over all (read_from n o bytes f done)
unfolding decode_from read_from
read_over zero o bytes f done all e = ended f done all o (sym (records_same done all e))
read_over (suc n) o [] f done all e = ended f done all o (sym (records_same done all e))
read_over (suc n) o (kind ∷ bytes) f done all e =
    by (λ i b g t q. read_over n i b g t all q) (unknown_kind kind || cut_body kind bytes) e (eqb (refusal_at f kind bytes) 0) refl
  where
    x : Record
    x = record_at kind bytes

    size : ℕ
    size = body_length (kind_of kind)

    by : ((i : ℕ) (b : List ℕ) (g : File) (t : List Record) → decode_from n b t ≡ records all → Over all (read_from n i b g t)) → (c : Bool)
        → ◌≡◌ {A = Decoded} (elim c [ true ↦ damaged | false ↦ decode_from n (drop size bytes) (done ++ (x ∷ [])) ]) (records all)
        → (d : Bool) → eqb (refusal_at f kind bytes) 0 ≡ d
        → let r : Outcome = elim d [ true ↦ read_from n (o + 1 + size) (drop size bytes) (apply f x) (done ++ (x ∷ [])) | false ↦ outcome f done (refusal_at f kind bytes) o ] in Over all r
    by ih true q d z = absurd (not_damaged all q)
    by ih false q true z = ih _ _ _ _ q
    by ih false q false z =
        let a = extends n (drop size bytes) (done ++ (x ∷ [])) all q in
        record {
          rest = x ∷ a.0;
          begins = a.1 ∙ append_assoc done (x ∷ []) a.0;
          accepted = λ k. absurd (eqb-false (refusal_at f kind bytes) 0 z k);
          broken = λ k. refused_nine f kind bytes k;
        }

-- EVERY INPUT that is not refused by 10
pub planned-over : (input : List ℕ) (all : List Record) → decoded input ≡ records all → (planned input).refused ≢ 10 → Over all (planned input)
unfolding planned file_of decoded
planned-over input all e h = by (ltb 65536 (length input)) h
  where
    by : (b : Bool) → let o : Outcome = elim b [ true ↦ outcome begun [] 10 0 | false ↦ read_from (length input) 0 input begun [] ] in o.refused ≢ 10 → Over all o
    by true k = absurd (k refl)
    by false k = read_over (length input) 0 input begun [] all e

-- ---- THE JOB

-- Two files of the same records so far, that are as far as each other.
pub record Level (f g : File) : Type 0 where
  pub draft : f.draft ≡ g.draft
  pub started : f.started ≡ g.started
  pub sealed : f.sealed ≡ g.sealed

pub level_same : (f : File) → Level f f
level_same f = record { draft = refl; started = refl; sealed = refl }

module _ (f g : File) (l : Level f g) where
  level-act : (a : Action) → Taken g (facts a) → Level (act f a) (plain g a)
  unfolding act sealed_file marked_file settled_file sifted_file plain
  level-act (begins n) t = record { draft = refl; started = refl; sealed = l.sealed }
  level-act (changes c) t = record {
    draft = ap (λ (d : Draft). with_change d c) l.draft;
    started = refl;
    sealed = l.sealed;
  }
  level-act closes t = record { draft = l.draft; started = l.started; sealed = refl }
  level-act (decides n v) t = record { draft = l.draft; started = l.started; sealed = sym (serving_turn g t.turn) }
  level-act settles t = record { draft = l.draft; started = l.started; sealed = refl }
  level-act sifts t = record { draft = l.draft; started = l.started; sealed = refl }
  level-act (idles x) t = l

  pub level_apply : (r : Record) → Taken g (facts (action r)) → Level (apply f r) (plainly g r)
  unfolding apply plainly
  level_apply r t = level-act (action r) t

pub level_after : (f g : File) (rs : List Record) → Level f g → Passes g rs → Level (after f rs) (plainly_all g rs)
unfolding after plainly_all Passes
level_after f g [] l p = l
level_after f g (r ∷ rs) l p = level_after (apply f r) (plainly g r) rs (level_apply f g l r (taken g r p.0)) p.1

-- behind the seal the draft stays
record Closed (f g : File) : Type 0 where
  pub draft : g.draft ≡ f.draft
  pub started : g.started ≡ true
  pub sealed : g.sealed ≡ true

closed_plain : (f : File) → f.started ≡ true → f.sealed ≡ true → (a : Action) → Taken f (facts a) → Closed f (plain f a)
unfolding plain
closed_plain f s k (begins n) t = absurd (both s t.turn)
closed_plain f s k (changes c) t = absurd (both k (change_turn f c t).1)
closed_plain f s k closes t = absurd (both k (building_turn f t.turn).1)
closed_plain f s k (decides n v) t = record { draft = refl; started = s; sealed = k }
closed_plain f s k settles t = record { draft = refl; started = s; sealed = refl }
closed_plain f s k sifts t = record { draft = refl; started = s; sealed = refl }
closed_plain f s k (idles x) t = record { draft = refl; started = s; sealed = k }

pub draft_stays : (f : File) (rs : List Record) → f.started ≡ true → f.sealed ≡ true → Passes f rs → (plainly_all f rs).draft ≡ f.draft
unfolding plainly_all plainly Passes
draft_stays f [] s k p = refl
draft_stays f (r ∷ rs) s k p = let c = closed_plain f s k (action r) (taken f r p.0) in draft_stays (plainly f r) rs c.started c.sealed p.1 ∙ c.draft

-- lists of records one behind the other
pub plainly-append : (f : File) (rs qs : List Record) → plainly_all f (rs ++ qs) ≡ plainly_all (plainly_all f rs) qs
unfolding plainly_all
plainly-append f [] qs = refl
plainly-append f (r ∷ rs) qs = plainly-append (plainly f r) rs qs

pub passes_split : (f : File) (rs qs : List Record) → Passes f (rs ++ qs) → Passes f rs × Passes (plainly_all f rs) qs
unfolding Passes plainly_all
passes_split f [] qs p = (tt, p)
passes_split f (r ∷ rs) qs p = let a = passes_split (plainly f r) rs qs p.1 in ((p.0, a.0), a.1)
