-- The lines of settings: F, A and H, in their order, each at most once.
use Rattle.contents.specs.declared.Letter.{Letter}
use Rattle.contents.specs.declared.Letter.TheVariants as letters
use Rattle.refusal.specs.declared.Refusal.TheVariants as refusal
use Rattle.std.proofs.Common.{None, Some, Option, is_none}
use Prim.Native.Nat.{ℕ, zero, suc, ◌+◌, ◌<◌, ◌≤◌}
use mathlib.Core.Path.{◌≡◌, refl, sym, ap, ◌∙◌, subst⁻¹}
use mathlib.Core.List.{List, [], ◌∷◌, ◌++◌}
use mathlib.Core.Bool.{Bool, true, false, cond}
use native.Mathlib.Omega.{arith}
use lib.Dec.{eqb}
use native.Mathlib.Nat.{le_trans}
use lib.ListN.{length, get_or}
use Rattle.text.specs.declared.field.Rule.{Rule}
use Rattle.text.specs.Pieces.{split}
use Rattle.text.specs.declared.field.Rule.TheVariants as rule
use Rattle.text.specs.Numbers.{number_at}
use Rattle.text.specs.Fields.{letter, field_of, fault_in}
use Rattle.digits.specs.Written.{decimal, joined, row_bytes}
use Rattle.digits.proofs.Lengths.{decimal_length}
use Rattle.text.proofs.GoodLaws.{range_good}
use Rattle.text.proofs.JoinLaws.{joined_length}
use Rattle.text.proofs.SizeLaws.{tag_as, letters_as, range_as}
use Rattle.contents.specs.declared.Limits.{Limits}
use Rattle.contents.specs.Hold.{measured, LegalHold}
use Rattle.contents.specs.declared.Header.{Header}
use Rattle.contents.specs.declared.Settings.{Settings}
use Rattle.contents.specs.declared.Sheet.{Sheet}
use Rattle.contents.specs.Sheets.{Held}
use Rattle.lines.specs.declared.Setting.{Setting}
use Rattle.lines.specs.declared.Setting.TheVariants as setting
use Rattle.lines.specs.declared.Record.{Record}
use Rattle.lines.specs.declared.Record.TheVariants as line
use Rattle.lines.specs.Lines.{choice_rules, rounding_rules, start_rules, hold_rules, rules_of, first_fault, holding, letter_in, hold_of, record_of}
use Rattle.progress.specs.Progress.{last_said, with_setting}
use Rattle.grammar.specs.Written.{line_if, choice_lines, hold_fields, hold_lines, setting_line, setting_lines}
use Rattle.grammar.specs.Longest.{choice_sizes, hold_sizes, settings_bytes}
use Rattle.progress.proofs.StateLaws.{SettingTag}
use Rattle.progress.proofs.StateLaws.SettingTag.{F-tag, A-tag, H-tag}
use Rattle.lines.proofs.GoodLines.{fault_at, holds_none, field_at, no_more, row_as}

-- a setting's place in the order
abbrev pub place_of : Setting → ℕ
place_of (setting.Rounding r) = 1
place_of (setting.Start a) = 2
place_of (setting.Hold x) = 3

-- a setting that may follow this header
abbrev pub LegalSetting : Header → Setting → Type 0
LegalSetting h (setting.Rounding r) = Unit {0}
LegalSetting h (setting.Start a) = Unit {0}
LegalSetting h (setting.Hold l) = LegalHold h (Some l)

pub with_legal : (h : Header) (x : Settings) (z : Setting) → LegalHold h x.hold → LegalSetting h z → LegalHold h (with_setting x z).hold
with_legal h x (setting.Rounding r) a b = a
with_legal h x (setting.Start c) a b = a
with_legal h x (setting.Hold y) a b = b

-- Two letters

choice_as : (t a b : ℕ) (fs : List (List ℕ)) → length fs ≡ 2 → first_fault (choice_rules t a b) fs ≡ None → (t ∷ []) ∷ (cond (letter a (get_or fs 1 [])) a b ∷ []) ∷ [] ≡ fs
choice_as t a b fs n e =
    field_at fs 0 _ _ (omega arith) (tag_as (get_or fs 0 []) t (fault_at (choice_rules t a b) fs 0 e (omega arith) (omega arith)))
    (field_at fs 1 _ _ (omega arith) (letters_as (get_or fs 1 []) a b (fault_at (choice_rules t a b) fs 1 e (omega arith) (omega arith))) (no_more fs 2 (omega arith)))

choice_row : (t a b : ℕ) (p : List ℕ) → length (split 9 p) ≡ 2 → first_fault (choice_rules t a b) (split 9 p) ≡ None → choice_lines t a b (letter_in a (get_or (split 9 p) 1 [])) ≡ p ∷ []
choice_row t a b p n e = by (letter a (get_or (split 9 p) 1 [])) (row_as p _ (choice_as t a b (split 9 p) n e))
  where
    by : (x : Bool) → joined ((t ∷ []) ∷ (cond x a b ∷ []) ∷ []) ≡ p → choice_lines t a b (cond x letters.First letters.Second) ≡ p ∷ []
    by true o = ap (λ (q : List ℕ). q ∷ []) o
    by false o = ap (λ (q : List ℕ). q ∷ []) o

module _ (t a b : ℕ) (p : List ℕ) where
  choice_bytes : (c : Letter) → choice_lines t a b c ≡ p ∷ [] → length p ≡ 3
  choice_bytes letters.First e = sym (ap (λ (ls : List (List ℕ)). length (get_or ls 0 [])) e)
  choice_bytes letters.Second e = sym (ap (λ (ls : List (List ℕ)). length (get_or ls 0 [])) e)

pub none_said : {A : Type 0} (o : Option A) → is_none o ≡ true → o ≡ None
none_said None e = refl
none_said (Some x) e = cc

-- Three counts

module _ (h : Header) (fs : List (List ℕ)) (n : length fs ≡ 4) (e : first_fault (hold_rules h) fs ≡ None) where
  hold-at : (i : ℕ) → i < 4 → fault_in (field_of (get_or (hold_rules h) i (rule.Tag 0)) (get_or fs i [])) ≡ None
  hold-at i k = fault_at (hold_rules h) fs i e k (omega arith)

  hold_as : hold_fields (number_at fs 1 ∷ number_at fs 2 ∷ number_at fs 3 ∷ []) ≡ fs
  unfolding number_at
  hold_as =
      field_at fs 0 _ _ (omega arith) (tag_as (get_or fs 0 []) 72 (hold-at 0 (omega arith)))
      (field_at fs 1 _ _ (omega arith) (range_as (get_or fs 1 []) refusal.Hold 0 (measured h 0) (hold-at 1 (omega arith)))
      (field_at fs 2 _ _ (omega arith) (range_as (get_or fs 2 []) refusal.Hold 0 (measured h 1) (hold-at 2 (omega arith)))
      (field_at fs 3 _ _ (omega arith) (range_as (get_or fs 3 []) refusal.Hold 0 (measured h 2) (hold-at 3 (omega arith))) (no_more fs 4 (omega arith)))))

  hold_legal : LegalHold h (Some (hold_of fs))
  unfolding hold_of number_at
  hold_legal = (
    refl,
    (range_good (get_or fs 1 []) refusal.Hold 0 (measured h 0) (hold-at 1 (omega arith))).top,
    (range_good (get_or fs 2 []) refusal.Hold 0 (measured h 1) (hold-at 2 (omega arith))).top,
    (range_good (get_or fs 3 []) refusal.Hold 0 (measured h 2) (hold-at 3 (omega arith))).top,
  )

hold_row : (h : Header) (p : List ℕ) → length (split 9 p) ≡ 4 → first_fault (hold_rules h) (split 9 p) ≡ None → hold_lines (hold_of (split 9 p)) ≡ p ∷ []
unfolding hold_of
hold_row h p n e = ap (λ (q : List ℕ). q ∷ []) (row_as p _ (hold_as h (split 9 p) n e))

-- counts of four digits
module _ (h : Header) (most : (c : ℕ) → measured h c ≤ 1000) where
  four_digits : (k c : ℕ) → k ≤ measured h c → length (decimal k) ≤ 4
  four_digits k c b = decimal_length 3 k (omega (arith, le_trans b (most c)))

  pub hold_within : (l : List ℕ) → LegalHold h (Some l) → length (joined (hold_fields l)) + 1 ≤ row_bytes hold_sizes
  hold_within l g =
      joined_length (hold_fields l) hold_sizes (omega arith) (omega arith, (four_digits (get_or l 0 0) 0 g.1, (four_digits (get_or l 1 0) 1 g.2, (four_digits (get_or l 2 0) 2 g.3, tt))))

  hold_bytes : (p : List ℕ) (l : List ℕ) → LegalHold h (Some l) → hold_lines l ≡ p ∷ [] → length p + 1 ≤ row_bytes hold_sizes
  hold_bytes p l g e = omega (arith, hold_within l g, ap (λ (ls : List (List ℕ)). length (get_or ls 0 [])) e)

-- A good line of setting i with the tag g after this header: what it says, that it is written so, and that it adds nothing to what is held
pub record Said (top : Header) (i g : ℕ) (rs : List Rule) (p : List ℕ) (rec : Record) : Type 0 where
  pub x : Setting
  pub says : rec ≡ line.Setting x
  pub place : place_of x ≡ i
  pub legal : LegalSetting top x
  pub row : setting_line x ≡ p ∷ []
  pub holds : (H : Held) (s : Sheet) → holding H s g rs (split 9 p) ≡ H

pub said_line : (i g : ℕ) (limits : Limits) (top : Header) (p : List ℕ) → SettingTag i g
    → length (split 9 p) ≡ length (rules_of g limits top (split 9 p)) → first_fault (rules_of g limits top (split 9 p)) (split 9 p) ≡ None
    → Said top i g (rules_of g limits top (split 9 p)) p (record_of g (split 9 p))
unfolding rules_of record_of
said_line i g limits top p (F-tag q r) n e =
    subst⁻¹ (λ (g : ℕ). Said top i g (rules_of g limits top (split 9 p)) p (record_of g (split 9 p))) r
    (record {
      x = setting.Rounding (letter_in 116 (get_or (split 9 p) 1 []));
      says = refl;
      place = sym q;
      legal = tt;
      row = choice_row 70 116 110 p (rw r at n) (rw r at e);
      holds = λ H s. holds_none H s 70 rounding_rules (split 9 p) refl refl refl refl;
    })
said_line i g limits top p (A-tag q r) n e =
    subst⁻¹ (λ (g : ℕ). Said top i g (rules_of g limits top (split 9 p)) p (record_of g (split 9 p))) r
    (record {
      x = setting.Start (letter_in 109 (get_or (split 9 p) 1 []));
      says = refl;
      place = sym q;
      legal = tt;
      row = choice_row 65 109 111 p (rw r at n) (rw r at e);
      holds = λ H s. holds_none H s 65 start_rules (split 9 p) refl refl refl refl;
    })
said_line i g limits top p (H-tag q r) n e =
    subst⁻¹ (λ (g : ℕ). Said top i g (rules_of g limits top (split 9 p)) p (record_of g (split 9 p))) r
    (record {
      x = setting.Hold (hold_of (split 9 p));
      says = refl;
      place = sym q;
      legal = hold_legal top (split 9 p) (rw r at n) (rw r at e);
      row = hold_row top p (rw r at n) (rw r at e);
      holds = λ H s. holds_none H s 72 (hold_rules top) (split 9 p) refl refl refl refl;
    })

pub no_end : (i g : ℕ) → SettingTag i g → eqb g 69 ≡ false
no_end i g (F-tag q r) = rw r
no_end i g (A-tag q r) = rw r
no_end i g (H-tag q r) = rw r

-- What was said before

hold_open : (w u v : Bool) → cond w (cond u (cond v 0 1) 2) 3 < 3 → w ≡ true
hold_open true u v h = refl
hold_open false u v h = let y : ⊥ = omega arith in absurd y

start_open : (w u v : Bool) → cond w (cond u (cond v 0 1) 2) 3 < 2 → u ≡ true
start_open true true v h = refl
start_open true false v h = let y : ⊥ = omega arith in absurd y
start_open false u v h = let y : ⊥ = omega arith in absurd y

round_open : (w u v : Bool) → cond w (cond u (cond v 0 1) 2) 3 < 1 → v ≡ true
round_open true true true h = refl
round_open true true false h = let y : ⊥ = omega arith in absurd y
round_open true false v h = let y : ⊥ = omega arith in absurd y
round_open false u v h = let y : ⊥ = omega arith in absurd y

module _ (x : Settings) where
  pub no-hold : last_said x < 3 → x.hold ≡ None
  no-hold h = none_said x.hold (hold_open (is_none x.hold) (is_none x.start) (is_none x.rounding) h)

  pub no_start : last_said x < 2 → x.start ≡ None
  no_start h = none_said x.start (start_open (is_none x.hold) (is_none x.start) (is_none x.rounding) h)

  pub no_rounding : last_said x < 1 → x.rounding ≡ None
  no_rounding h = none_said x.rounding (round_open (is_none x.hold) (is_none x.start) (is_none x.rounding) h)

-- a setting that is said is the last that was
pub now_said : (x : Settings) (z : Setting) → last_said x < place_of z → last_said (with_setting x z) ≡ place_of z
now_said x (setting.Rounding r) h = rw (no-hold x (omega arith), no_start x (omega arith))
now_said x (setting.Start a) h = rw (no-hold x (omega arith))
now_said x (setting.Hold l) h = refl

-- The most bytes of the settings after place n
abbrev pub settings_left : ℕ → ℕ
settings_left zero = settings_bytes
settings_left (suc zero) = row_bytes choice_sizes + row_bytes hold_sizes
settings_left (suc (suc zero)) = row_bytes hold_sizes
settings_left (suc (suc (suc n))) = 0

pub setting_spent : (h : Header) → ((c : ℕ) → measured h c ≤ 1000) → (z : Setting) → LegalSetting h z → (p : List ℕ) (n : ℕ) → n < place_of z → setting_line z ≡ p ∷ []
    → length p + 1 + settings_left (place_of z) ≤ settings_left n
setting_spent h most (setting.Rounding r) g p zero k e = omega (arith, choice_bytes 70 116 110 p r e)
setting_spent h most (setting.Rounding r) g p (suc n) k e = let y : ⊥ = omega arith in absurd y
setting_spent h most (setting.Start a) g p zero k e = omega (arith, choice_bytes 65 109 111 p a e)
setting_spent h most (setting.Start a) g p (suc zero) k e = omega (arith, choice_bytes 65 109 111 p a e)
setting_spent h most (setting.Start a) g p (suc (suc n)) k e = let y : ⊥ = omega arith in absurd y
setting_spent h most (setting.Hold x) g p zero k e = omega (arith, hold_bytes h most p x g e)
setting_spent h most (setting.Hold x) g p (suc zero) k e = omega (arith, hold_bytes h most p x g e)
setting_spent h most (setting.Hold x) g p (suc (suc zero)) k e = omega (arith, hold_bytes h most p x g e)
setting_spent h most (setting.Hold x) g p (suc (suc (suc n))) k e = let y : ⊥ = omega arith in absurd y

-- The lines of the settings y after place n
abbrev pub lines_after : ℕ → Settings → List (List ℕ)
lines_after zero y = setting_lines y
lines_after (suc zero) y = line_if setting.Start y.start ++ line_if setting.Hold y.hold
lines_after (suc (suc zero)) y = line_if setting.Hold y.hold
lines_after (suc (suc (suc n))) y = []

-- y agrees with x up to place n
pub record Agree (n : ℕ) (x y : Settings) : Type 0 where
  pub rounding : 1 ≤ n → y.rounding ≡ x.rounding
  pub start : 2 ≤ n → y.start ≡ x.start
  pub hold : 3 ≤ n → y.hold ≡ x.hold

-- after the last that was said there is no line
pub none_after : (x : Settings) → lines_after (last_said x) x ≡ []
none_after x = three (is_none x.hold) (is_none x.start) (is_none x.rounding) refl refl refl
  where
    three : (w u v : Bool) → is_none x.hold ≡ w → is_none x.start ≡ u → is_none x.rounding ≡ v → lines_after (cond w (cond u (cond v 0 1) 2) 3) x ≡ []
    three true true true o p q = rw (none_said x.hold o, none_said x.start p, none_said x.rounding q)
    three true true false o p q = rw (none_said x.hold o, none_said x.start p)
    three true false v o p q = rw (none_said x.hold o)
    three false u v o p q = refl

-- a setting's line, and those after it
module _ (x y : Settings) (p : List ℕ) where
  round_line : (n : ℕ) → n < 1 → (r : Letter) → choice_lines 70 116 110 r ≡ p ∷ [] → y.rounding ≡ Some r → lines_after n y ≡ p ∷ lines_after 1 y
  round_line zero h r e q = rw (q, e)
  round_line (suc n) h r e q = let b : ⊥ = omega arith in absurd b

  start_line : (n : ℕ) → n < 2 → (n < 1 → y.rounding ≡ None) → (a : Letter) → choice_lines 65 109 111 a ≡ p ∷ [] → y.start ≡ Some a → lines_after n y ≡ p ∷ lines_after 2 y
  start_line zero h o a e q = rw (o (omega arith), q, e)
  start_line (suc zero) h o a e q = rw (q, e)
  start_line (suc (suc n)) h o a e q = let b : ⊥ = omega arith in absurd b

  hold_line : (n : ℕ) → n < 3 → (n < 1 → y.rounding ≡ None) → (n < 2 → y.start ≡ None) → (w : List ℕ) → hold_lines w ≡ p ∷ [] → y.hold ≡ Some w → lines_after n y ≡ p ∷ []
  hold_line zero h o u w e q = rw (o (omega arith), u (omega arith), q, e)
  hold_line (suc zero) h o u w e q = rw (u (omega arith), q, e)
  hold_line (suc (suc zero)) h o u w e q = rw (q, e)
  hold_line (suc (suc (suc n))) h o u w e q = let b : ⊥ = omega arith in absurd b

  pub one_line : (z : Setting) → last_said x < place_of z → setting_line z ≡ p ∷ [] → Agree (place_of z) (with_setting x z) y → lines_after (last_said x) y ≡ p ∷ lines_after (place_of z) y
  one_line (setting.Rounding r) h e g = round_line (last_said x) h r e (g.rounding (omega arith))
  one_line (setting.Start a) h e g = start_line (last_said x) h (λ q. g.rounding (omega arith) ∙ no_rounding x q) a e (g.start (omega arith))
  one_line (setting.Hold w) h e g =
      hold_line (last_said x) h (λ q. g.rounding (omega arith) ∙ no_rounding x q) (λ q. g.start (omega arith) ∙ no_start x q) w e (g.hold (omega arith))

  pub one_kept : (z : Setting) → last_said x < place_of z → Agree (place_of z) (with_setting x z) y → Agree (last_said x) x y
  one_kept (setting.Rounding r) h g =
      record { rounding = λ q. let b : ⊥ = omega arith in absurd b; start = λ q. let b : ⊥ = omega arith in absurd b; hold = λ q. let b : ⊥ = omega arith in absurd b }
  one_kept (setting.Start a) h g =
      record { rounding = λ q. g.rounding (omega arith); start = λ q. let b : ⊥ = omega arith in absurd b; hold = λ q. let b : ⊥ = omega arith in absurd b }
  one_kept (setting.Hold w) h g =
      record { rounding = λ q. g.rounding (omega arith); start = λ q. g.start (omega arith); hold = λ q. let b : ⊥ = omega arith in absurd b }
