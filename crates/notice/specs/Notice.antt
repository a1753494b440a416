-- What the program says on standard error of what the call gave back: words for a person, which the listing has not.
use Rattle.std.specs.Prelude.{ℕ, cond, List, [], ◌++◌, eqb}
use Rattle.state.specs.declared.Step.{Step}
use Rattle.state.specs.Step.{contradicts}
use Rattle.files.specs.Listing.{text}
use Rattle.text.specs.Decimal.{decimal}
use Rattle.files.specs.declared.Given.{Given}

-- Document 01's refusals by their numbers. The program holds its buffers itself, so that 10 speaks of the input.
unfoldable pub meaning : ℕ → List ℕ
meaning number =
    cond (eqb number 1) (text "the file ends inside this record")
    (cond (eqb number 2) (text "there is no record of this kind")
    (cond (eqb number 3) (text "this record is out of its turn")
    (cond (eqb number 4) (text "this is one more than the limits allow")
    (cond (eqb number 5) (text "this node is not below the node count")
    (cond (eqb number 6) (text "this node is not above that of the threshold before")
    (cond (eqb number 7) (text "this bound is outside -2^52 to 2^52")
    (cond (eqb number 8) (text "a mark is 1 for sure or 0 for never")
    (cond (eqb number 9) (text "an earlier record left no layout")
    (text "the file is longer than 65,536 bytes")))))))))

unfoldable pub refused_text : ℕ → ℕ → List ℕ
refused_text number offset =
    cond (eqb number 0) [] (text "refused: " ++ meaning number ++ text ", at byte " ++ decimal offset ++ text "\n")

unfoldable pub left_text : Step → List ℕ
left_text last = cond (contradicts last) (text "no layout is left\n") []

-- THE NOTICE: a refusal in words, and that no layout is left where the last answer was a contradiction.
unfoldable pub notice : Given → List ℕ
notice g = refused_text g.refused g.at ++ left_text g.last

-- The most bytes that each takes.
abbrev pub max_meaning : ℕ
max_meaning = 51

abbrev pub max_refused : ℕ
max_refused = 92

abbrev pub max_left : ℕ
max_left = 18

abbrev pub max_notice : ℕ
max_notice = 110
