-- Laws of the lent buffers: what keeps them twice keeps them.
use Rattle.std.proofs.Common.{◌∙◌}
use Rattle.row_moves.specs.declared.Live.{Live}
use Rattle.row_moves.specs.Lent.{SameLent}

pub lent_on : (l m n : Live) → SameLent l m → SameLent m n → SameLent l n
lent_on l m n e f = (f.0 ∙ e.0, f.1 ∙ e.1, f.2 ∙ e.2, f.3 ∙ e.3, f.4 ∙ e.4, f.5 ∙ e.5, f.6 ∙ e.6, f.7 ∙ e.7, f.8 ∙ e.8, f.9 ∙ e.9, f.10 ∙ e.10, f.11 ∙ e.11)
