-- How many bytes a legal text has at most, and how many decide any text.
use Rattle.std.specs.Prelude.{ℕ, ◌+◌, ◌*◌, ◌/◌, List, [], ◌∷◌, length, replicate}
use Rattle.digits.specs.Written.{decimal, row_bytes}

-- The most bytes of each field, where a side has at most d digits
abbrev pub header_sizes : ℕ → List ℕ
header_sizes d = 1 ∷ d ∷ d ∷ d ∷ d ∷ 1 ∷ 1 ∷ 4 ∷ 4 ∷ 4 ∷ replicate 6 9

abbrev pub choice_sizes : List ℕ
choice_sizes = 1 ∷ 1 ∷ []

-- a held count is within 1,000
abbrev pub hold_sizes : List ℕ
hold_sizes = 1 ∷ 4 ∷ 4 ∷ 4 ∷ []

abbrev pub channel_sizes : ℕ → List ℕ
channel_sizes d = 1 ∷ d ∷ d ∷ 1 ∷ 1 ∷ replicate 64 3

-- a block with 64 pairs; one with 64 levels is shorter
abbrev pub block_sizes : List ℕ
block_sizes = 1 ∷ replicate 128 5

-- a mark: a channel is 0 to 2, and there are limit / 8 rows and columns of blocks at most
abbrev pub mark_sizes : ℕ → List ℕ
mark_sizes limit = let e = length (decimal (limit / 8)) in 1 ∷ 1 ∷ e ∷ e ∷ []

-- a channel with as many blocks as the full sides hold, each marked once
abbrev pub channel_bytes : ℕ → ℕ → ℕ
channel_bytes limit d = row_bytes (channel_sizes d) + limit * limit / 64 * row_bytes block_sizes + limit * limit / 64 * row_bytes (mark_sizes limit)

-- the lines of all settings, F, A and H
abbrev pub settings_bytes : ℕ
settings_bytes = row_bytes choice_sizes + row_bytes choice_sizes + row_bytes hold_sizes

-- No legal text has more bytes: a header, the settings, three channels with their marks and E
unfoldable pub longest : ℕ → ℕ
longest limit = let d = length (decimal limit) in row_bytes (header_sizes d) + settings_bytes + 3 * channel_bytes limit d + 2

-- So many bytes of a text, or more, decide it: the first bad line of a longer text begins within the longest legal text, and
-- ends in sight or shows more than 1,024 bytes
unfoldable pub decisive : ℕ → ℕ
decisive limit = longest limit + 1026
