-- The rows of one class in a tree: a search for a raw list goes by the list's terms and by their binary digits, so that it passes a bounded number of rows
-- for each of its terms, whatever the other lists are.
use Rattle.std.specs.Prelude.{ℕ, zero, suc, ◌+◌, ◌-◌, ◌*◌, ◌/◌, ◌%◌, ◌^◌, ◌<◌, ◌≤◌, ◌≡◌, Bool, true, cond, List, [], ◌∷◌, map, length, get_or, set, eqb, Result, Ok, Err}
use Rattle.memory.specs.Limits.{max_thresholds}
use Rattle.numeric.specs.Threshold.{Term}
use Rattle.row.specs.Terms.{same_terms}
use Rattle.memory.specs.Buffers.{RawLists}
use Rattle.thresholds.specs.Raw.{fingerprint}
use Rattle.job.specs.Shared.{number_in}
use Rattle.rows.specs.Lists.{list_at}

-- ---- marks

-- How many short prints there are: a mark has room for 21 bits of a fingerprint.
abbrev pub shorts : ℕ
shorts = 2 ^ 21

-- A row is marked by one word: three links to later rows, counted from 1, 0 for none; its list's print, cut short; the first threshold that has it.
-- At first it has no links.
abbrev pub mark : ℕ → ℕ → ℕ
mark print t = print % shorts * max_thresholds + t

abbrev pub print_in : ℕ → ℕ
print_in m = m / max_thresholds % shorts

abbrev pub marked_list : RawLists → ℕ → List Term
marked_list r m = list_at r (m % max_thresholds)

abbrev pub links_in : ℕ → ℕ
links_in m = m / max_thresholds / shorts

-- The link of a side: 0 and 1 for the binary digits of a term, 2 for the same term.
unfoldable pub link_in : ℕ → ℕ → ℕ
link_in zero m = links_in m % 2048
link_in (suc zero) m = links_in m / 2048 % 2048
link_in (suc (suc s)) m = links_in m / 4194304

-- The mark with a link at a side that had none.
unfoldable pub with_link : ℕ → ℕ → ℕ → ℕ
with_link zero v m = m + v * 2147483648
with_link (suc zero) v m = m + v * 4398046511104
with_link (suc (suc s)) v m = m + v * 9007199254740992

-- How many classes of raw lists there are.
abbrev pub class_count : ℕ
class_count = 1024

-- The class of a fingerprint: ten bits of a product, so that each bit of the fingerprint counts.
unfoldable pub class_of : ℕ → ℕ
class_of print = print * 2654435769 / 4194304 % class_count

-- ---- a search

-- The word of the term at a place, 1 and more; 0 after the last.
unfoldable pub word_at : List Term → ℕ → ℕ
word_at [] p = 0
word_at (t ∷ ts) zero = 1 + t.condition + t.weight * 65536
word_at (t ∷ ts) (suc p) = word_at ts p

-- Where a search has come: to a row, counted from 1, 0 for none; to a term of its list; what is left of that term's word.
pub record Way : Type 0 where
  pub row : ℕ
  pub place : ℕ
  pub rest : ℕ

abbrev pub way : ℕ → ℕ → ℕ → Way
way k p q = record { row = k; place = p; rest = q }

-- Whether list v has the same term as x at a place.
abbrev pub meets : List Term → List Term → ℕ → Bool
meets v x p = eqb (word_at v p) (word_at x p)

-- From a row with list v the search for x goes on with the next term where v has the same, else by one more digit.
abbrev pub side_at : List Term → List Term → ℕ → ℕ → ℕ
side_at v x p q = cond (meets v x p) 2 (q % 2)

abbrev pub next_place : List Term → List Term → ℕ → ℕ
next_place v x p = cond (meets v x p) (p + 1) p

abbrev pub next_rest : List Term → List Term → ℕ → ℕ → ℕ
next_rest v x p q = cond (meets v x p) (word_at x (p + 1)) (q / 2)

unfoldable pub on_from : RawLists → List ℕ → List Term → ℕ → ℕ → ℕ → Way
on_from r ms x zero p q = way 0 p q
on_from r ms x (suc j) p q =
    way (link_in (side_at (marked_list r (get_or ms j 0)) x p q) (get_or ms j 0)) (next_place (marked_list r (get_or ms j 0)) x p) (next_rest (marked_list r (get_or ms j 0)) x p q)

-- One row on, and so many rows on.
abbrev pub onward : RawLists → List ℕ → List Term → Way → Way
onward r ms x w = on_from r ms x w.row w.place w.rest

unfoldable pub walk : RawLists → List ℕ → List Term → ℕ → Way → Way
walk r ms x zero w = w
walk r ms x (suc d) w = walk r ms x d (onward r ms x w)

-- A search begins at the first row of its list's class.
abbrev pub head_of : List ℕ → List Term → ℕ
head_of heads x = get_or heads (class_of (fingerprint x)) 0

abbrev pub begin : List ℕ → List Term → Way
begin heads x = way (head_of heads x) 0 (word_at x 0)

-- Each mark names a threshold, and the print of its list.
pub record Marked (r : RawLists) (count : ℕ) (marks : List ℕ) : Type 0 where
  pub first : (k : ℕ) → k < length marks → get_or marks k 0 % max_thresholds < count
  pub print : (k : ℕ) → k < length marks → print_in (get_or marks k 0) ≡ fingerprint (marked_list r (get_or marks k 0)) % shorts

-- Heads and links name rows, links later ones, and a search for the list of any row comes to it.
pub record Treed (r : RawLists) (marks heads : List ℕ) : Type 0 where
  pub wide : class_count ≤ length heads
  pub heads_few : (h : ℕ) → h < class_count → get_or heads h 0 ≤ length marks
  pub few : (j s : ℕ) → j < length marks → link_in s (get_or marks j 0) ≤ length marks
  pub later : (j s : ℕ) → j < length marks → 0 < link_in s (get_or marks j 0) → suc j < link_in s (get_or marks j 0)
  pub reached : (i : ℕ) → i < length marks → (d : ℕ) × ((walk r marks (marked_list r (get_or marks i 0)) d (begin heads (marked_list r (get_or marks i 0)))).row ≡ suc i)

-- The last link that a search followed, named by its row, counted from 1, times 3 and its side: it led to row k.
pub record Under (r : RawLists) (marks heads : List ℕ) (x : List Term) (a k : ℕ) : Type 0 where
  pub some : 0 < a / 3
  pub few : a / 3 ≤ length marks
  pub steps : ℕ
  pub place : ℕ
  pub rest : ℕ
  pub leads : walk r marks x steps (begin heads x) ≡ way (a / 3) place rest
  pub side : side_at (marked_list r (get_or marks (a / 3 - 1) 0)) x place rest ≡ a % 3
  pub link : link_in (a % 3) (get_or marks (a / 3 - 1) 0) ≡ k

-- The same, 0 naming the head of the list's class.
pub record Came (r : RawLists) (marks heads : List ℕ) (x : List Term) (a k : ℕ) : Type 0 where
  pub head : a ≡ 0 → head_of heads x ≡ k
  pub under : 0 < a → Under r marks heads x a k

-- No list stands twice among the lists.
abbrev pub Own : List (List Term) → Type 0
Own ls = (k : ℕ) → k < length ls → number_in ls (get_or ls k []) ≡ k

-- A search for list x has come to row k, at place p with q left of its word: any row that has the list lies ahead.
pub record Searching (r : RawLists) (marks heads : List ℕ) (x : List Term) (k p q a : ℕ) : Type 0 where
  pub few : k ≤ length marks
  pub early : 0 < k → p < k
  pub steps : ℕ
  pub leads : walk r marks x steps (begin heads x) ≡ way k p q
  pub came : Came r marks heads x a k
  pub ahead : (i : ℕ) → i < length marks → same_terms (marked_list r (get_or marks i 0)) x ≡ true → (d : ℕ) × ((walk r marks x d (way k p q)).row ≡ suc i)

-- What a search finds: the row that has the list, or, as an error, the link at which a row with it belongs.
abbrev pub Finds : RawLists → List ℕ → List ℕ → List Term → Result ℕ ℕ → Type 0
Finds r marks heads x (Ok k) = (k ≡ number_in (map (marked_list r) marks) x) × (k < length marks)
Finds r marks heads x (Err a) = (number_in (map (marked_list r) marks) x ≡ length marks) × Came r marks heads x a 0

-- A row more, counted from 1, at a link.
unfoldable pub linked_marks : ℕ → ℕ → List ℕ → List ℕ
linked_marks zero v ms = ms
linked_marks (suc a) v ms = set ms (suc a / 3 - 1) (with_link (suc a % 3) v (get_or ms (suc a / 3 - 1) 0))

unfoldable pub linked_heads : ℕ → ℕ → ℕ → List ℕ → List ℕ
linked_heads zero class v heads = set heads class v
linked_heads (suc a) class v heads = heads
