-- What is read so far, by the tests that the code makes.
use Prim.Native.Nat.{ℕ, ◌*◌, ◌<◌, ◌≤◌}
use Rattle.std.proofs.Common.{Option, Some, None}
use Rattle.std.specs.List.{find}
use mathlib.Core.Path.{◌≡◌, refl, ap, ◌∙◌, subst⁻¹}
use mathlib.Core.List.{List, [], ◌∷◌}
use mathlib.Core.Bool.{Bool, true, false, cond, ◌&&◌}
use native.Mathlib.Omega.{arith}
use native.Mathlib.Nat.{lt_of_le_of_lt, le_of_lt, mul-le-mul_left, mul-lt-mul_of_pos_right}
use lib.ListN.{get_or}
use mir.Syntax.{w32, w64}
use mir.Val.{Fits}
use lib.Dec.{eqb, ltb, lit<}
use borrow.Author.Tests.{ltb-true, ltb-false}
use Rattle.text.specs.Fields.{letter}
use Rattle.digits.proofs.Both.{both_left, both_right}
use Rattle.contents.specs.declared.Mark.{Mark}
use Rattle.contents.specs.declared.Sheet.{Sheet}
use Rattle.lines.specs.declared.Tag.{Tag}
use Rattle.lines.specs.declared.Tag.TheVariants as tags
use Rattle.lines.specs.declared.Setting.TheVariants as setting
use Rattle.lines.specs.declared.Record.{Record}
use Rattle.lines.specs.declared.Record.TheVariants as line
use Rattle.progress.specs.declared.State.{State}
use Rattle.lines.specs.Lines.{letter_of, letter_in, hold_of, mark_of, header_of, channel_of, record_of}
use Rattle.contents.specs.Marks.{block_of, has_block}
use Rattle.progress.specs.Taking.{Due}
use Rattle.progress.specs.Progress.{blank, due_tag, may_stand, is_setting, is_range, is_mark, is_own, line_tag, most_blocks, exists}

pub first_tag : (fs : List (List ℕ)) → line_tag blank fs ≡ 83
unfolding blank line_tag
first_tag fs = rw (never (letter 70 (get_or fs 0 [])), never (letter 65 (get_or fs 0 [])), never (letter 72 (get_or fs 0 [])), never (letter 71 (get_or fs 0 [])), never (letter 78 (get_or fs 0 [])))
  where
    never : (x : Bool) → (x && false) ≡ false
    never true = refl
    never false = refl

-- The tags that are looked for: the first that is the line's own, or the due one
abbrev pub own_tags : List Tag
own_tags = tags.Rounding ∷ tags.Start ∷ tags.Hold ∷ tags.Range ∷ tags.Mark ∷ []

module _ (s : State) (fs : List (List ℕ)) where
  abbrev tag_in : Option Tag → ℕ
  tag_in None = due_tag s
  tag_in (Some t) = letter_of t

  found : tag_in (find (is_own s fs) own_tags) ≡ line_tag s fs
  unfolding line_tag
  found = five (is_own s fs tags.Rounding) (is_own s fs tags.Start) (is_own s fs tags.Hold) (is_own s fs tags.Range) (is_own s fs tags.Mark)
    where
      five : (a b c d e : Bool)
          → tag_in (cond a (Some tags.Rounding) (cond b (Some tags.Start) (cond c (Some tags.Hold) (cond d (Some tags.Range) (cond e (Some tags.Mark) None)))))
          ≡ cond a 70 (cond b 65 (cond c 72 (cond d 71 (cond e 78 (due_tag s)))))
      five true b c d e = refl
      five false true c d e = refl
      five false false true d e = refl
      five false false false true e = refl
      five false false false false true = refl
      five false false false false false = refl

  pub own_found : (t : Tag) → Some t ≡ find (is_own s fs) own_tags → letter_of t ≡ line_tag s fs
  own_found t e = ap tag_in e ∙ found

  pub none_found : None ≡ find (is_own s fs) own_tags → due_tag s ≡ line_tag s fs
  none_found e = ap tag_in e ∙ found

-- Setting i, by its tag
pub data SettingTag (i tag : ℕ) : Type 0 where
  F-tag : i ≡ 1 → tag ≡ 70 → SettingTag i tag
  A-tag : i ≡ 2 → tag ≡ 65 → SettingTag i tag
  H-tag : i ≡ 3 → tag ≡ 72 → SettingTag i tag

-- A block's line, ranged or not, by its tag
pub data BlockTag (r : Bool) (tag : ℕ) : Type 0 where
  B-tag : r ≡ false → tag ≡ 66 → BlockTag r tag
  G-tag : r ≡ true → tag ≡ 71 → BlockTag r tag

-- Which line may stand after what was read
pub data Stands (s : State) (tag : ℕ) : Type 0 where
  Header-line : s.begun ≡ false → tag ≡ 83 → Stands s tag
  Setting-line : (i : ℕ) → may_stand i s ≡ true → SettingTag i tag → Stands s tag
  Block-line : (r : Bool) → s.begun ≡ true → 0 < s.left → BlockTag r tag → Stands s tag
  Channel-line : s.begun ≡ true → s.left ≤ 0 → s.read < s.sheet.header.channels → tag ≡ 67 → Stands s tag
  End-line : s.begun ≡ true → s.left ≤ 0 → s.sheet.header.channels ≤ s.read → tag ≡ 69 → Stands s tag
  Mark-line : s.begun ≡ true → s.left ≤ 0 → s.sheet.header.channels ≤ s.read → tag ≡ 78 → Stands s tag

pub unbegun : (s : State) {A : Type 0} → s.begun ≡ true → s.begun ≡ false → A
unbegun s p q = let z : ◌≡◌ {A = ℕ} 0 1 = cc in let y : ⊥ = omega arith in absurd y

pub stands : (s : State) (fs : List (List ℕ)) (tag : ℕ) → tag ≡ line_tag s fs → Stands s tag
unfolding line_tag
stands s fs tag e = own (is_setting s fs 1 70) (is_setting s fs 2 65) (is_setting s fs 3 72) (is_range s fs) (is_mark s fs) refl refl refl refl refl e
  where
    three : (a b c : Bool) → s.begun ≡ a → ltb 0 s.left ≡ b → ltb s.read s.sheet.header.channels ≡ c → tag ≡ cond a (cond b 66 (cond c 67 69)) 83 → Stands s tag
    three false b c p q r o = Header-line p o
    three true true c p q r o = Block-line false p (ltb-true 0 s.left q) (B-tag refl o)
    three true false true p q r o = Channel-line p (ltb-false 0 s.left q) (ltb-true s.read s.sheet.header.channels r) o
    three true false false p q r o = End-line p (ltb-false 0 s.left q) (ltb-false s.read s.sheet.header.channels r) o

    -- where E is due
    due_end : (a b c : Bool) → s.begun ≡ a → ltb 0 s.left ≡ b → ltb s.read s.sheet.header.channels ≡ c → eqb (cond a (cond b 66 (cond c 67 69)) 83) 69 ≡ true → tag ≡ 78 → Stands s tag
    due_end false b c p q r o t = let z : ◌≡◌ {A = ℕ} 0 1 = cc in let y : ⊥ = omega arith in absurd y
    due_end true true c p q r o t = let z : ◌≡◌ {A = ℕ} 0 1 = cc in let y : ⊥ = omega arith in absurd y
    due_end true false true p q r o t = let z : ◌≡◌ {A = ℕ} 0 1 = cc in let y : ⊥ = omega arith in absurd y
    due_end true false false p q r o t = Mark-line p (ltb-false 0 s.left q) (ltb-false s.read s.sheet.header.channels r) t

    own : (x y w z v : Bool) → is_setting s fs 1 70 ≡ x → is_setting s fs 2 65 ≡ y → is_setting s fs 3 72 ≡ w → is_range s fs ≡ z → is_mark s fs ≡ v
        → tag ≡ cond x 70 (cond y 65 (cond w 72 (cond z 71 (cond v 78 (due_tag s))))) → Stands s tag
    own true y w z v p q u r k o = Setting-line 1 (both_right (letter 70 (get_or fs 0 [])) (may_stand 1 s) p) (F-tag refl o)
    own false true w z v p q u r k o = Setting-line 2 (both_right (letter 65 (get_or fs 0 [])) (may_stand 2 s) q) (A-tag refl o)
    own false false true z v p q u r k o = Setting-line 3 (both_right (letter 72 (get_or fs 0 [])) (may_stand 3 s) u) (H-tag refl o)
    own false false false true v p q u r k o =
        let b = both_right (letter 71 (get_or fs 0 [])) (s.begun && ltb 0 s.left) r in
        Block-line true (both_left s.begun (ltb 0 s.left) b) (ltb-true 0 s.left (both_right s.begun (ltb 0 s.left) b)) (G-tag refl o)
    own false false false false true p q u r k o =
        due_end s.begun (ltb 0 s.left) (ltb s.read s.sheet.header.channels) refl refl refl (both_right (letter 78 (get_or fs 0 [])) (eqb (due_tag s) 69) k) o
    own false false false false false p q u r k o = three s.begun (ltb 0 s.left) (ltb s.read s.sheet.header.channels) refl refl refl o

pub product_fits : (a b : ℕ) → Fits w32 a → Fits w32 b → Fits w64 (a * b)
product_fits a b h k = record { fits = lt_of_le_of_lt (mul-le-mul_left a (le_of_lt k.fits)) (mul-lt-mul_of_pos_right h.fits (lit< tt)) }

-- what is due where the tag isn't E
pub due : (s : State) (fs : List (List ℕ)) (tag : ℕ) → tag ≡ line_tag s fs → (tag ≡ 69 → ⊥) → (rec : Record) → rec ≡ record_of tag fs → Due s rec
unfolding record_of
due s fs tag e h rec q = subst⁻¹ (Due s) q (by (stands s fs tag e))
  where
    by : Stands s tag
        → Due s
        (cond (eqb tag 83) (line.Header (header_of fs))
        (cond (eqb tag 67) (line.Channel (channel_of fs))
        (cond (eqb tag 70) (line.Setting (setting.Rounding (letter_in 116 (get_or fs 1 []))))
        (cond (eqb tag 65) (line.Setting (setting.Start (letter_in 109 (get_or fs 1 []))))
        (cond (eqb tag 72) (line.Setting (setting.Hold (hold_of fs)))
        (cond (eqb tag 78) (line.Mark (mark_of fs)) line.Block))))))
    by (Header-line p o) = rw o tt
    by (Setting-line i p (F-tag n o)) = rw o tt
    by (Setting-line i p (A-tag n o)) = rw o tt
    by (Setting-line i p (H-tag n o)) = rw o tt
    by (Block-line r p l (B-tag n o)) = rw o l
    by (Block-line r p l (G-tag n o)) = rw o l
    by (Channel-line p l r o) = rw o r
    by (End-line p l r o) = absurd (h o)
    by (Mark-line p l r o) = rw o tt

-- the map of all blocks
pub exists_within : (s : Sheet) (m : Mark) → exists s m ≡ true → block_of s m < most_blocks
unfolding exists
exists_within s m e = ltb-true (block_of s m) most_blocks (both_right (has_block s m) (ltb (block_of s m) most_blocks) e)
