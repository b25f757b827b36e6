-- The needs as the code looks at them: of one channel or of three. Of legal sheets the same as
-- `same_sheet`.
use Rattle.std.specs.Prelude.{ℕ, List, take, Bool, if◌then◌else◌, ◌==◌, ◌&&◌}
use Rattle.contents.specs.declared.Channel.{Channel}
use Rattle.contents.specs.declared.Sheet.{Sheet}
use Rattle.seam.specs.Seam.{same_header, same_letters, same_holds, same_channels}

-- how many of three channels are looked at where a header says n: one if it says 1, else all
abbrev pub used : ℕ → ℕ
used n = if n == 1 then 1 else 3

-- the channels in use of a sheet with n channels
abbrev pub used_of : ℕ → Sheet → List Channel
used_of n s = take (used n) s.channels

-- the held counts of these channels
abbrev pub holds_used : ℕ → Sheet → Sheet → Bool
holds_used n s t = same_holds (used n) s t

-- `same_sheet`, of sheets with one channel or three
abbrev pub same_used : Sheet → Sheet → Bool
same_used s t =
    same_header s.header t.header
    && (same_letters s.settings t.settings
    && (holds_used s.header.channels s t
    && same_channels s.header.width t.header.width
    (used_of s.header.channels s) (used_of s.header.channels t)))
