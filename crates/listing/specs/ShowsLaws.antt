-- THE LISTING FROM THE BUFFERS: the lines read from the words are those of the outcome that the buffers show. Assumes nothing.
use Prim.Native.Nat.{ℕ, zero, suc, ◌+◌, ◌-◌, ◌/◌, ◌%◌, ◌≤◌, ◌<◌}
use Rattle.std.proofs.Common.{arith, ◌∙◌, subst, get_or-take}
use Rattle.std.specs.Prelude.{◌≡◌, Bool, length, get_or, eqb}
use Rattle.std.proofs.Math.Path.{refl, sym, ap, ap₂}
use Rattle.std.proofs.Math.Bool.{true, false, cond}
use mathlib.Core.List.{List, [], ◌∷◌, ◌++◌, map, append_assoc}
use Rattle.std.proofs.Math.ListN.{take}
use Rattle.base.specs.TestLaws.{unequal}
use Rattle.base.specs.Laid.{pairs}
use Rattle.state.specs.declared.Step.TheVariants.{Unchanged, Changed, Contradiction}
use Rattle.state.specs.declared.State.{State}
use Rattle.state.specs.State.{no_state}
use Rattle.words.specs.Mask.{digit, bit, count}
use Rattle.words.proofs.CountLaws.{count_above}
use Rattle.rows.specs.Rows.{Row, rows_of}
use Rattle.memory.specs.Limits.{max_nodes}
use Rattle.files.specs.File.{File, Answer, settled, sifted, Outcome, begun}
use Rattle.files.specs.Contents.{answer_number, answer_visits, given_of}
use Rattle.files.specs.Listing.{text, answer_line, answer_lines, node_lines, row_lines, state_lines, last_line, listing}
use Rattle.text.specs.Decimal.{digits, decimal}
use Rattle.files.specs.declared.Given.{Given}
use Rattle.text.specs.Text.{joined}
use Rattle.listing.specs.Lines.{step_of, answer_of, answer_at, node_at, row_line, row_at, end_line, refused_line, decided, node_text, row_count_of, last_text, listed, Listable}
use Rattle.listing.specs.Shows.{Inside, Held, ten, Shows, untouched, held}

-- ---- texts by number

joined_same : (f g : ℕ → List ℕ) (n : ℕ) → ((i : ℕ) → i < n → f i ≡ g i) → joined f n ≡ joined g n
unfolding joined
joined_same f g zero h = refl
joined_same f g (suc n) h = ap₂ (λ (a b : List ℕ). a ++ b) (joined_same f g n (λ i k. h i (omega arith))) (h n (omega arith))

-- The first one apart.
joined-front : (f : ℕ → List ℕ) (n : ℕ) → joined f (suc n) ≡ f 0 ++ joined (λ (i : ℕ). f (suc i)) n
unfolding joined
joined-front f zero = append-empty (f 0)
  where
    append-empty : (l : List ℕ) → [] ++ l ≡ l ++ []
    append-empty [] = refl
    append-empty (x ∷ l) = ap (λ (m : List ℕ). x ∷ m) (append-empty l)
joined-front f (suc n) =
    ap (λ (l : List ℕ). l ++ f (suc n)) (joined-front f n) ∙ append_assoc (f 0) (joined (λ (i : ℕ). f (suc i)) n) (f (suc n))

-- ---- answers

answer_read : (a : Answer) → answer_of (answer_number a) (answer_visits a) ≡ a
unfolding answer_of step_of
answer_read (settled Unchanged) = refl
answer_read (settled Changed) = refl
answer_read (settled Contradiction) = refl
answer_read (sifted Unchanged n) = refl
answer_read (sifted Changed n) = refl
answer_read (sifted Contradiction n) = refl

-- All of them, where the buffer holds them and no more.
answers_read : (as' : List Answer) → joined (answer_at (pairs (map answer_number as') (map answer_visits as'))) (length as') ≡ answer_lines as'
unfolding answer_lines joined answer_at pairs
answers_read [] = refl
answers_read (a ∷ as') =
    joined-front (answer_at (pairs (map answer_number (a ∷ as')) (map answer_visits (a ∷ as')))) (length as')
    ∙ ap₂ (λ (x y : List ℕ). x ++ y) (ap answer_line (answer_read a)) (answers_read as')

pub answers_taken : (answers : List (List ℕ)) (n : ℕ) → joined (answer_at answers) n ≡ joined (answer_at (take n answers)) n
unfolding answer_at
answers_taken answers n =
    joined_same (answer_at answers) (answer_at (take n answers)) n
    (λ i h. ap (λ (w : List ℕ). answer_line (answer_of (get_or w 0 0) (get_or w 1 0))) (sym (get_or-take n answers i [] h)))

pub rows_taken : (states : List State) (n : ℕ) → joined (row_at states) n ≡ joined (row_at (take n states)) n
rows_taken states n =
    joined_same (row_at states) (row_at (take n states)) n (λ r h. ap (row_line r) (sym (get_or-take n states r no_state h)))

-- ---- nodes

next_place_lem : (n i : ℕ) → n + suc i ≡ n + 1 + i
next_place_lem n i = omega arith

first-place : (n : ℕ) → n + 0 ≡ n
first-place n = omega arith

module _ (f : File) where
  abbrev line : ℕ → List ℕ
  line n = node_at f.live.marks.sure f.live.marks.never n

  nodes-first : (more n : ℕ) → node_lines f (suc more) n ≡ line n ++ node_lines f more (n + 1)
  unfolding node_lines node_at
  nodes-first more n = by (bit f.live.marks.sure n) (bit f.live.marks.never n)
    where
      told : List ℕ → List ℕ
      told word = text "node " ++ decimal n ++ word

      by : (a b : Bool)
          → let l : List ℕ = elim a [ true ↦ told (text " sure\n") ++ node_lines f more (n + 1) | false ↦ elim b [ true ↦ told (text " never\n") ++ node_lines f more (n + 1) | false ↦ node_lines f more (n + 1) ] ]
          in l ≡ cond a (told (text " sure\n")) (cond b (told (text " never\n")) []) ++ node_lines f more (n + 1)
      by true b = refl
      by false true = refl
      by false false = refl

  nodes-read : (more n : ℕ) → node_lines f more n ≡ joined (λ (i : ℕ). line (n + i)) more
  unfolding node_lines joined
  nodes-read zero n = refl
  nodes-read (suc more) n =
      nodes-first more n
      ∙ ap₂ (λ (a b : List ℕ). a ++ b) (ap line (sym (first-place n)))
      (nodes-read more (n + 1) ∙ joined_same (λ (i : ℕ). line (n + 1 + i)) (λ (i : ℕ). line (n + suc i)) more (λ i h. ap line (sym (next_place_lem n i))))
      ∙ sym (joined-front (λ (i : ℕ). line (n + i)) more)

  -- ---- rows

  abbrev row : ℕ → List ℕ
  row r = row_at f.live.states r

  rows-read : (xs : List Row) (r : ℕ) → row_lines f xs r ≡ joined (λ (i : ℕ). row (r + i)) (length xs)
  unfolding row_lines joined row_line
  rows-read [] r = refl
  rows-read (x ∷ xs) r =
      ap₂ (λ (a b : List ℕ). a ++ b) (ap row (sym (first-place r)))
      (rows-read xs (r + 1) ∙ joined_same (λ (i : ℕ). row (r + 1 + i)) (λ (i : ℕ). row (r + suc i)) (length xs) (λ i h. ap row (sym (next_place_lem r i))))
      ∙ sym (joined-front (λ (i : ℕ). row (r + i)) (length xs))

from_zero : (f : ℕ → List ℕ) (n : ℕ) → joined (λ (i : ℕ). f (0 + i)) n ≡ joined f n
from_zero f n = joined_same (λ (i : ℕ). f (0 + i)) f n (λ i h. ap f {x = 0 + i} {y = i} (omega arith))

-- ---- masks

bit_taken : (mask : List ℕ) (n : ℕ) → n < max_nodes → bit mask n ≡ bit (take 64 mask) n
bit_taken mask n h = ap (λ (w : ℕ). eqb (digit w (n % 64)) 1) (sym (get_or-take 64 mask (n / 64) 0 (omega arith)))

count_inside : (mask : List ℕ) (nodes : ℕ) → nodes ≤ max_nodes → Inside nodes mask → count mask max_nodes ≡ count mask nodes
count_inside mask nodes h i =
    let e : max_nodes ≡ nodes + (max_nodes - nodes) = omega arith in
    ap (count mask) e ∙ count_above mask nodes (max_nodes - nodes) (λ m a b. outside m a (bit mask m) refl)
  where
    outside : (m : ℕ) → nodes ≤ m → (b : Bool) → bit mask m ≡ b → bit mask m ≡ false
    outside m a true e = absurd (let k = i m e in omega arith)
    outside m a false e = e

-- ---- THE PARTS

module _ (o : Outcome) (answers : List (List ℕ)) (states : List State) (sure never : List ℕ) (h : Held o answers states sure never) where
  abbrev g : Given
  g = given_of o

  abbrev f : File
  f = o.file

  answer-part : joined (answer_at answers) g.answered ≡ answer_lines f.answers
  answer-part =
      answers_taken answers g.answered ∙ ap (λ (l : List (List ℕ)). joined (answer_at l) g.answered) h.numbered ∙ answers_read f.answers

  node-part : joined (node_at sure never) f.draft.nodes ≡ node_lines f f.draft.nodes 0
  unfolding node_at
  node-part =
      let few = h.few_nodes in
      joined_same (node_at sure never) (line f) f.draft.nodes
      (λ n k.
      let s : bit sure n ≡ bit f.live.marks.sure n = bit_taken sure n (omega arith) ∙ ap (λ (l : List ℕ). bit l n) h.sures in
      let v : bit never n ≡ bit f.live.marks.never n = bit_taken never n (omega arith) ∙ ap (λ (l : List ℕ). bit l n) h.nevers in
      ap₂ (λ (a b : Bool). cond a (text "node " ++ decimal n ++ text " sure\n") (cond b (text "node " ++ decimal n ++ text " never\n") [])) s v)
      ∙ sym (from_zero (line f) f.draft.nodes) ∙ sym (nodes-read f f.draft.nodes 0)

  row-part : (n : ℕ) → take n states ≡ take n f.live.states → n ≡ length (rows_of f.closed) → joined (row_at states) n ≡ row_lines f (rows_of f.closed) 0
  row-part n e q =
      joined_same (row_at states) (row f) n
      (λ r k. ap (row_line r) (sym (get_or-take n states r no_state k) ∙ ap (λ (l : List State). get_or l r no_state) e ∙ get_or-take n f.live.states r no_state k))
      ∙ ap (joined (row f)) q ∙ sym (from_zero (row f) (length (rows_of f.closed))) ∙ sym (rows-read f (rows_of f.closed) 0)

  -- Nodes and rows, where the file is sealed.
  state-part : node_text g sure never ++ joined (row_at states) (row_count_of g) ≡ state_lines f
  unfolding node_text joined
  state-part = by f.sealed h.closed h.stated
    where
      by : (b : Bool) → (b ≡ true → f.closed.nodes ≡ f.draft.nodes) → let n : ℕ = cond b (length (rows_of f.closed)) 0 in take n states ≡ take n f.live.states
          → cond b (joined (node_at sure never) f.draft.nodes) [] ++ joined (row_at states) (cond b (cond b (length (rows_of f.closed)) 0) 0)
          ≡ cond b (node_lines f f.closed.nodes 0 ++ row_lines f (rows_of f.closed) 0) []
      by true q e =
          ap₂ (λ (a b : List ℕ). a ++ b) (node-part ∙ ap (λ (n : ℕ). node_lines f n 0) (sym (q refl))) (row-part (length (rows_of f.closed)) e refl)
      by false q e = refl

  decided-part : (mask left : List ℕ) → take 64 mask ≡ left → Inside f.draft.nodes left → decided mask ≡ count left f.draft.nodes
  decided-part mask left e i = ap (λ (l : List ℕ). count l max_nodes) e ∙ count_inside left f.draft.nodes h.few_nodes i

  last-part : last_text g sure never ≡ last_line o
  unfolding last_text end_line refused_line
  last-part =
      ap₂ (λ (s n : ℕ). cond (eqb o.refused 0) (end_line s n) (refused_line o.refused o.at))
      (decided-part sure f.live.marks.sure h.sures h.only_sure) (decided-part never f.live.marks.never h.nevers h.only_never)

-- ---- THE LISTING

ten-listed : (answers : List (List ℕ)) (states : List State) (sure never : List ℕ) → listed (given_of ten) answers states sure never ≡ listing ten
unfolding listing joined node_text last_text refused_line answer_lines begun
ten-listed answers states sure never = refl

-- After refusal 10 it is the one line.
pub ten_line : listing ten ≡ text "refused 10 at 0\n"
unfolding listing answer_lines text digits begun
ten_line = refl

pub shows_listing : {o : Outcome} {g : Given} {answers : List (List ℕ)} {states : List State} {sure never : List ℕ} → Shows o g answers states sure never
    → listed g answers states sure never ≡ listing o
unfolding listing
shows_listing {o} {g} {answers} {states} {sure} {never} (untouched e q) =
    ap (λ (x : Given). listed x answers states sure never) q ∙ ten-listed answers states sure never ∙ ap listing (sym e)
shows_listing {o} {g} {answers} {states} {sure} {never} (held q h) =
    ap (λ (x : Given). listed x answers states sure never) q
    ∙ ap (λ (a : List ℕ). a ++ last_text (given_of o) sure never) (append_assoc (joined (answer_at answers) (given_of o).answered) (node_text (given_of o) sure never) (joined (row_at states) (row_count_of (given_of o))))
    ∙ ap₂ (λ (a b : List ℕ). a ++ b) (ap₂ (λ (a b : List ℕ). a ++ b) (answer-part o answers states sure never h) (state-part o answers states sure never h))
    (last-part o answers states sure never h)

ten_listable : (answers : List (List ℕ)) (states : List State) (sure never : List ℕ) → Listable (given_of ten) answers states sure never
unfolding begun
ten_listable answers states sure never = record {
  answered = record { few = omega arith; inside = omega arith };
  sealed = λ s. absurd (unequal cc);
  ended = λ z. absurd (omega arith);
}

-- And it can be made.
pub shows_listable : {o : Outcome} {g : Given} {answers : List (List ℕ)} {states : List State} {sure never : List ℕ} → Shows o g answers states sure never
    → Listable g answers states sure never
shows_listable {o} {g} {answers} {states} {sure} {never} (untouched e q) =
    subst (λ (x : Given). Listable x answers states sure never) (sym q) (ten_listable answers states sure never)
shows_listable {o} {g} {answers} {states} {sure} {never} (held q h) =
    subst (λ (x : Given). Listable x answers states sure never) (sym q) (record {
      answered = record { few = h.few_answers; inside = h.in_answers };
      sealed = λ s. record {
        masks = record { nodes = h.few_nodes; in_sure_lem = omega (arith, h.few_nodes, h.in_sure_lem); in_never_lem = omega (arith, h.few_nodes, h.in_never_lem) };
        rows = h.few_rows;
        in_states = h.in_states;
      };
      ended = λ z. (h.in_sure_lem, h.in_never_lem);
    })
