-- NO FILE LOSES A LAYOUT: every layout of the job that agrees with the marks agrees with all nodes that the records of a file decide,
-- and where there is such a layout no record contradicts.
use Rattle.std.specs.Prelude.{ℕ, ◌<◌, ◌≡◌, refl, Bool, true, false, cond, ◌⊎◌, length, get_or, eqb, ltb}
use Rattle.std.proofs.Common.{arith, sym, ap, ◌∙◌, subst, inl, ⊎_elim, eqb-true, ltb-false}
use mathlib.Core.List.{List, [], ◌∷◌, map, Memᴰ}
use Rattle.std.proofs.Math.Logic.{inr}
use Rattle.std.proofs.lemmas.Bool.{eqb-false}
use Rattle.memory.specs.Limits.{max_nodes}
use Rattle.numeric.specs.Threshold.{Job}
use Rattle.numeric.specs.Area.{job_of}
use Rattle.numeric.specs.Layout.{Layout, IsLayout}
use Rattle.queues.specs.Marks.{Marks, decide}
use Rattle.rows.specs.Rows.{no_row, rows_of}
use Rattle.intervals.proofs.SoundLaws.{Kept, decide-kept}
use Rattle.row_moves.specs.Between.{with_marks}
use Rattle.drain.specs.Drain as Drain
use Rattle.drain.specs.Drain.{index_of}
use Rattle.records.specs.declared.Record.{Record}
use Rattle.records.specs.Facts.{Action, closes, decides, settles, sifts, action, facts}
use Rattle.files.specs.File.{File, contradicted, begun, sealed_file, marked_file, settled_file, sifted_file, act, apply, after, Passed}
use Rattle.theorem_table.specs.Table.{IsRow}
use Rattle.theorem_limits.specs.BuiltLaws.{fits_of, fits_node, fits_condition, rows_few, indexed}
use Rattle.theorem_limits.specs.Good.{Fits as JobFits, Good}
use Rattle.theorem_limits.specs.BlankLaws.{blank-begun}
use Rattle.theorem_limits.specs.FilesLaws.{good_begun, both, Taken, taken, building_turn, node_small, good_apply}
use Rattle.theorem_limits.specs.ActionLaws.{act_unsealed, act_sealed, act-served}
use Rattle.theorem_follows.specs.Ordered.{Ordered}
use Rattle.theorem_follows.specs.StandsLaws.{apart_decide}
use Rattle.queues.proofs.StayLaws.{stay_same, stay_decide}
use Rattle.theorem_follows.specs.BuiltLaws.{Built, built, rows-ordered}
use Rattle.theorem_follows.specs.WaitingLaws.{queued_decide}
use Rattle.theorem_follows.specs.FirstLaws.{Undrained, undrained_from, undrained_none}
use Rattle.theorem_demands.specs.LayoutTurnsLaws.{Fits, Holds, Between, agrees_fits, marked, settle_fine}
use Rattle.theorem_demands.specs.LayoutSiftsLaws.{sift_fine}
use Rattle.theorem_demands.specs.LayoutSealsLaws.{seal_fine}

-- WHAT A SEAL BUILDS of a job within the limits

builds : (j : Job) → Built j (index_of j)
builds j = built j (index_of j) refl refl refl

orders : (j : Job) → JobFits j → (r : ℕ) → IsRow (rows_of j) r → Ordered (get_or (rows_of j) r no_row)
orders j f = rows-ordered j (record { nodes = fits_node j f; conditions = fits_condition j f })

-- THE STAGES of a file: before its seal every decided node waits and the layout agrees with them; after it, with the rows as well

pub record Open (w : Layout) (f : File) : Type 0 where
  pub sealed : f.sealed ≡ false
  pub fine : contradicted f ≡ false
  pub undrained : Undrained 0 f.live
  pub fits : Fits w f.live.marks

begun_open : (w : Layout) → Open w begun
unfolding begun
begun_open w = record {
  sealed = refl;
  fine = refl;
  undrained = undrained_none begun.live good_begun.live.waits blank-begun.states blank-begun.bits;
  fits = λ b n e. absurd (both e (blank-begun.bits b n));
}

pub record Closed (w : Layout) (f : File) : Type 0 where
  pub started : f.started ≡ true
  pub sealed : f.sealed ≡ true
  pub fine : contradicted f ≡ false
  pub between : Between (index_of f.closed) w f.live

abbrev pub Stage : Layout → File → Type 0
Stage w f = Open w f ⊎ Closed w f

-- What decides a node agrees with the layout.
abbrev AgreesOne : Layout → Action → Type 0
AgreesOne w a = (n : ℕ) (b : Bool) → decides n (cond b 1 0) ≡ a → w n ≡ b

-- Behind the seal no record changes the job that it closed.
module _ (f : File) (started : f.started ≡ true) (sealed : f.sealed ≡ true) where
  abbrev Same : File → Type 0
  Same h = (h.started ≡ true) × (h.sealed ≡ true) × (h.closed ≡ f.closed)

  same-job : (a : Action) → Taken f (facts a) → Same (act f a)
  same-job = act-served f Same (started, sealed, refl) started sealed (λ k v g as'. (started, refl, refl))

job_stays : (f : File) (rs : List Record) → f.started ≡ true → f.sealed ≡ true → Passed f rs → (after f rs).closed ≡ f.closed
unfolding after apply
job_stays f [] a b p = refl
job_stays f (r ∷ rs) a b p = let s = same-job f a b (action r) (taken f r p.0) in job_stays (apply f r) rs s.0 s.1 p.1 ∙ s.2

module _ (w : Layout) (f : File) (g : Good f) where
  -- ---- before the seal

  sealed-fine : Open w f → Taken f (facts closes) → ((act f closes).started ≡ true → (act f closes).sealed ≡ true → IsLayout (act f closes).closed w) → Stage w (act f closes)
  unfolding act sealed_file
  sealed-fine o t is =
      let started = (building_turn f t.turn).0 in
      let j = job_of f.draft in
      let d = seal_fine j (index_of j) (builds j) (orders j (fits_of g.draft)) w (is started refl) f.live
      (undrained_from 0 (length (rows_of j)) f.live (omega arith) o.undrained) o.fits g.live (rows_few j (fits_of g.draft)) in
      inr (record { started = started; sealed = refl; fine = d.0; between = d.1 })

  opened : Open w f → (a : Action) → Taken f (facts a) → ((act f a).started ≡ true → (act f a).sealed ≡ true → IsLayout (act f a).closed w) → Stage w (act f a)
  opened o =
      act_unsealed f (λ (a : Action) (h : File). (h.started ≡ true → h.sealed ≡ true → IsLayout h.closed w) → Stage w h) (λ x is. inl o) o.sealed
      (λ a d is. inl (record { sealed = o.sealed; fine = o.fine; undrained = o.undrained; fits = o.fits })) (sealed-fine o)

  -- ---- after it

  value-is : (v : ℕ) → ltb 1 v ≡ false → cond (eqb v 1) 1 0 ≡ v
  value-is v h = by (eqb v 1) refl
    where
      by : (b : Bool) → eqb v 1 ≡ b → cond b 1 0 ≡ v
      by true e = sym (eqb-true v 1 e)
      by false e = omega (arith, eqb-false v 1 e, ltb-false 1 v h)

  module _ (c : Closed w f) (is : IsLayout f.closed w) where
    marked-closed : (n v : ℕ) → Taken f (facts (decides n v)) → w n ≡ eqb v 1 → Closed w (act f (decides n v))
    unfolding act marked_file Drain.mark
    marked-closed n v t e = record { started = c.started; sealed = refl; fine = k.1; between = (c.between.0, holds) }
      where
        m : Marks
        m = f.live.marks

        small : n < max_nodes
        small = node_small f g n t.nodes

        k : Kept w (decide (eqb v 1) m n)
        k = decide-kept w (eqb v 1) m n e (agrees_fits (index_of f.closed) w f.live c.between.1.agrees)

        holds : Holds (index_of f.closed) w c.between.0 c.between.0 (with_marks f.live (decide (eqb v 1) m n).marks)
        holds =
            marked (index_of f.closed) w c.between.0 c.between.0 c.between.0 f.live (decide (eqb v 1) m n).marks f.live.dirty f.live.residuals c.between.1
            (stay_decide m (eqb v 1) m n (stay_same m)) (apart_decide (eqb v 1) m n c.between.1.stands.apart) k.0
            (queued_decide c.between.0 (eqb v 1) m n small c.between.1.queued)

    settled-closed : Closed w (act f settles)
    unfolding act settled_file
    settled-closed =
        let d = settle_fine f.closed (index_of f.closed) (builds f.closed) (orders f.closed g.closed) w is f.live c.between in
        record { started = c.started; sealed = refl; fine = d.0; between = d.1 }

    sifted-closed : Closed w (act f sifts)
    unfolding act sifted_file
    sifted-closed =
        let d = sift_fine f.closed (index_of f.closed) (builds f.closed) (orders f.closed g.closed) (indexed f.closed g.closed) w is f.live f.gcds g.live c.between in
        record { started = c.started; sealed = refl; fine = d.0; between = d.1 }

    closed : (a : Action) → Taken f (facts a) → AgreesOne w a → Stage w (act f a)
    closed =
        act_sealed f (λ (a : Action) (h : File). AgreesOne w a → Stage w h) (λ x a. inr c) c.started c.sealed
        (λ n v t a. inr (marked-closed n v t (a n (eqb v 1) (ap (decides n) (value-is v t.values))))) (λ t a. inr settled-closed) (λ t a. inr sifted-closed)

-- ONE RECORD AFTER THE OTHER
pub stages : (w : Layout) (f : File) (rs : List Record) → Good f → Passed f rs → IsLayout (after f rs).closed w
    → ((n : ℕ) (b : Bool) → Memᴰ (decides n (cond b 1 0)) (map action rs) → w n ≡ b) → Stage w f → Stage w (after f rs)
unfolding after apply
stages w f [] g p is a s = s
stages w f (r ∷ rs) g p is a s =
    stages w (apply f r) rs (good_apply f g r p.0) p.1 is (λ n b m. a n b (Memᴰ.tail m))
    (⊎_elim
    (λ (o : Open w f). opened w f g o (action r) t (λ d e. subst (λ (j : Job). IsLayout j w) (job_stays (apply f r) rs d e p.1) is))
    (λ (c : Closed w f).
    let k = same-job f c.started c.sealed (action r) t in
    closed w f g c (subst (λ (j : Job). IsLayout j w) (job_stays (apply f r) rs k.0 k.1 p.1 ∙ k.2) is) (action r) t (λ n b e. a n b (Memᴰ.head e))) s)
  where
    t : Taken f (facts (action r))
    t = taken f r p.0

stage_fits : (w : Layout) (f : File) → Stage w f → Fits w f.live.marks × (contradicted f ≡ false)
stage_fits w f (inl o) = (o.fits, o.fine)
stage_fits w f (inr c) = (agrees_fits (index_of f.closed) w f.live c.between.1.agrees, c.fine)

-- EVERY LAYOUT OF THE JOB THAT AGREES WITH THE MARKS agrees with the nodes that records leave, which do not contradict
pub file_layouts : (rs : List Record) → Passed begun rs → (w : Layout) → let f = after begun rs in IsLayout f.closed w
    → ((n : ℕ) (b : Bool) → Memᴰ (decides n (cond b 1 0)) (map action rs) → w n ≡ b) → Fits w f.live.marks × (contradicted f ≡ false)
file_layouts rs p w is a = stage_fits w (after begun rs) (stages w begun rs good_begun p is a (inl (begun_open w)))
