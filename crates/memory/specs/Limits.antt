-- The limits, by name: the counts of document 01.
use Rattle.std.specs.Prelude.{ℕ}

abbrev pub max_nodes : ℕ
max_nodes = 4096

-- Terms of all thresholds, so of all rows, and edges.
abbrev pub max_terms : ℕ
max_terms = 4096

-- Thresholds, so guards and rows.
abbrev pub max_thresholds : ℕ
max_thresholds = 1024

-- Terms of one threshold.
abbrev pub list_terms : ℕ
list_terms = 1024

-- Places of the links: a row has at most one link to a prefix, which stands at both rows.
abbrev pub max_links : ℕ
max_links = 2048

-- Words of a sum search, and the suffix gcds of the longest row with one more.
abbrev pub search_words : ℕ
search_words = 4096

abbrev pub max_gcds : ℕ
max_gcds = 1025
