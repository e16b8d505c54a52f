-- The work area by its words: the entries, what trials saved, and the nodes that a fit test has still to walk.
use Rattle.std.specs.Prelude.{ℕ, zero, suc, ◌+◌, ◌*◌, List, get_or}
use Rattle.waiting.specs.declared.Tag.{Tag}
use Rattle.waiting.specs.declared.Tag.TheVariants.{Node, Trial, Closing}
use Rattle.waiting.specs.declared.Due.{Due}
use Rattle.waiting.specs.declared.Saved.{Saved}

-- the words of an entry, and of what a trial saved
abbrev pub entry_words : ℕ
entry_words = 4

abbrev pub saved_words : ℕ
saved_words = 6

-- where what trials saved starts, where the fit test's nodes start, and the words that are lent at least
abbrev pub saved_from : ℕ
saved_from = 4096

abbrev pub fit_from : ℕ
fit_from = 10240

abbrev pub area_words : ℕ
area_words = 16384

-- ---- the entry at height d

abbrev pub number_at : List ℕ → ℕ → ℕ
number_at w d = get_or w (d * entry_words) 0

abbrev pub indent_at : List ℕ → ℕ → ℕ
indent_at w d = get_or w (d * entry_words + 1) 0

abbrev pub mode_at : List ℕ → ℕ → ℕ
mode_at w d = get_or w (d * entry_words + 2) 0

abbrev pub tag_at : List ℕ → ℕ → ℕ
tag_at w d = get_or w (d * entry_words + 3) 0

-- ---- as the code holds them

-- a tag's word, and the tag that a word stands for
abbrev pub tag_word : Tag → ℕ
tag_word Node = 0
tag_word Trial = 1
tag_word Closing = 2

abbrev pub tag_in : ℕ → Tag
tag_in zero = Node
tag_in (suc zero) = Trial
tag_in (suc (suc t)) = Closing

abbrev pub due_of : ℕ → ℕ → ℕ → Due
due_of n i m = record { node = record { 0 = n }; indent = record { 0 = i }; mode = record { 0 = m } }

abbrev pub due_at : List ℕ → ℕ → Due
due_at w d = due_of (number_at w d) (indent_at w d) (mode_at w d)

abbrev pub saved_word : List ℕ → ℕ → ℕ → ℕ
saved_word w d k = get_or w (saved_from + d * saved_words + k) 0

abbrev pub saved_words_at : List ℕ → ℕ → Saved
saved_words_at w d =
    record {
      page = record { column = record { 0 = get_or w (saved_from + d * saved_words) 0 }; used = saved_word w d 1; events = saved_word w d 2 };
      past = saved_word w d 3;
    }
