-- The marks of two sheets side by side: each is a block of the output, no block is marked twice, and a block is marked where it was in its own sheet.
use Prim.Native.Nat.{ℕ, zero, suc, ◌+◌, ◌*◌, ◌/◌, ◌≤◌, ◌<◌}
use mathlib.Core.Path.{◌≡◌, refl, sym, ap, ◌∙◌, subst}
use mathlib.Core.List.{List, [], ◌∷◌, ◌++◌, append-nil, append_assoc}
use mathlib.Core.Bool.{Bool, true, false, ◌||◌}
use native.Mathlib.Omega.{arith}
use native.Mathlib.Nat.{mul-le-mul_right}
use lib.Dec.{eqb, leb}
use borrow.Author.Tests.{eqb-true, eqb-false, eq-eqb, ne_eqb, lt-ltb, leb-true, leb-false}
use Rattle.contents.specs.declared.Mark.{Mark}
use Rattle.contents.specs.declared.Sheet.{Sheet}
use Rattle.contents.specs.Sheets.{Marked, marked, channel_at}
use Rattle.contents.specs.Marks.{blocks_before, block_of, has_block, among}
use Rattle.contents.specs.Legal.{LegalMarks}
use Rattle.grammar.proofs.MarkLaws.{Place, place-of, within}
use Rattle.stitch.proofs.MarkTextLaws.{kept, kept_both}

-- Two places with one number are one place

row_below : (n r k r' k' : ℕ) → k < n → r * n + k ≡ r' * n + k' → r' ≤ r
row_below n r k r' k' h e = by (leb r' r) refl
  where
    by : (t : Bool) → leb r' r ≡ t → r' ≤ r
    by true q = leb-true r' r q
    by false q =
        let l : suc r ≤ r' = leb-false r' r q in
        let m = mul-le-mul_right n l in
        let u : suc r * n ≡ r * n + n = omega arith in
        let y : ⊥ = omega (arith, m, u) in
        absurd y

module _ (n r k r' k' : ℕ) (h : k < n) (h' : k' < n) (e : r * n + k ≡ r' * n + k') where
  one_row : r ≡ r'
  one_row = omega (arith, row_below n r k r' k' h e, row_below n r' k' r k h' (sym e))

  one_place : (r ≡ r') × (k ≡ k')
  one_place = (one_row, omega (arith, ap (λ (x : ℕ). x * n) one_row))

-- of a channel
record In (s : Sheet) (c r k : ℕ) : Type 0 where
  row : r < (channel_at s c).height / 8
  column : k < (channel_at s c).width / 8

in_blocks : (s : Sheet) (c r k : ℕ) → In s c r k → r * ((channel_at s c).width / 8) + k < (channel_at s c).width * (channel_at s c).height / 64
in_blocks s c r k i = within (channel_at s c).width (channel_at s c).height r k i.row i.column

abbrev number_in : Sheet → ℕ → ℕ → ℕ → ℕ
number_in s c r k = blocks_before s c + r * ((channel_at s c).width / 8) + k

module _ (s : Sheet) (r k r' k' : ℕ) where
  abbrev Same : ℕ → ℕ → Type 0
  Same c c' = (c ≡ c') × ((r ≡ r') × (k ≡ k'))

  same_in : (c : ℕ) → In s c r k → In s c r' k' → number_in s c r k ≡ number_in s c r' k' → Same c c
  same_in c i j e = (refl, one_place ((channel_at s c).width / 8) r k r' k' i.column j.column (omega arith))

  same_place : (c c' : ℕ) → c < 3 → c' < 3 → In s c r k → In s c' r' k' → number_in s c r k ≡ number_in s c' r' k' → Same c c'
  same_place zero zero h h' i j e = same_in zero i j e
  same_place (suc zero) (suc zero) h h' i j e = same_in (suc zero) i j e
  same_place (suc (suc zero)) (suc (suc zero)) h h' i j e = same_in (suc (suc zero)) i j e
  same_place zero (suc zero) h h' i j e = let y : ⊥ = omega (arith, in_blocks s zero r k i) in absurd y
  same_place zero (suc (suc zero)) h h' i j e = let y : ⊥ = omega (arith, in_blocks s zero r k i) in absurd y
  same_place (suc zero) zero h h' i j e = let y : ⊥ = omega (arith, in_blocks s zero r' k' j) in absurd y
  same_place (suc zero) (suc (suc zero)) h h' i j e = let y : ⊥ = omega (arith, in_blocks s (suc zero) r k i) in absurd y
  same_place (suc (suc zero)) zero h h' i j e = let y : ⊥ = omega (arith, in_blocks s zero r' k' j) in absurd y
  same_place (suc (suc zero)) (suc zero) h h' i j e = let y : ⊥ = omega (arith, in_blocks s (suc zero) r' k' j) in absurd y
  same_place (suc (suc (suc c))) c' h h' i j e = absurd (omega arith)
  same_place zero (suc (suc (suc c'))) h h' i j e = absurd (omega arith)
  same_place (suc zero) (suc (suc (suc c'))) h h' i j e = absurd (omega arith)
  same_place (suc (suc zero)) (suc (suc (suc c'))) h h' i j e = absurd (omega arith)

pub one_block : (s : Sheet) (m n : Mark) → s.header.channels ≤ 3 → Place s m → Place s n → block_of s m ≡ block_of s n → m ≡ n
unfolding block_of
one_block s m n few p q e =
    let g = same_place s m.row m.column n.row n.column m.channel n.channel (omega (arith, p.channel)) (omega (arith, q.channel)) (record { row = p.row; column = p.column }) (record { row = q.row; column = q.column }) e in
    λ i. record { channel = g.0 i; row = g.1.0 i; column = g.1.1 i }

pub has_of : (s : Sheet) (m : Mark) → Place s m → has_block s m ≡ true
unfolding has_block
has_of s m p =
    rw (lt-ltb m.channel s.header.channels p.channel, lt-ltb m.row ((channel_at s m.channel).height / 8) p.row, lt-ltb m.column ((channel_at s m.channel).width / 8) p.column)

-- Marks with the numbers of their blocks

pub record Known (s : Sheet) (m : Marked) : Type 0 where
  pub block : m.block ≡ block_of s m.at
  pub place : Place s m.at

abbrev pub AllKnown : Sheet → List Marked → Type 0
AllKnown s [] = Unit {0}
AllKnown s (m ∷ ms) = Known s m × AllKnown s ms

pub all_known : (s : Sheet) (before ms : List Marked) → LegalMarks s before ms → AllKnown s ms
all_known s before [] l = tt
all_known s before (m ∷ ms) l = (record { block = l.0.block; place = place-of s m.at l.0.has }, all_known s (before ++ m ∷ []) ms l.1)

known_both : (s : Sheet) (ms ns : List Marked) → AllKnown s ms → AllKnown s ns → AllKnown s (ms ++ ns)
known_both s [] ns g k = k
known_both s (m ∷ ms) ns g k = (g.0, known_both s ms ns g.1 k)

-- a mark that is not among these
abbrev pub Absent : Mark → List Marked → Type 0
Absent m [] = Unit {0}
Absent m (n ∷ ns) = (m ≡ n.at → ⊥) × Absent m ns

absent_both : (m : Mark) (ms ns : List Marked) → Absent m ms → Absent m ns → Absent m (ms ++ ns)
absent_both m [] ns a b = b
absent_both m (n ∷ ms) ns a b = (a.0, absent_both m ms ns a.1 b)

or_left : (a b : Bool) → (a || b) ≡ false → a ≡ false
or_left true b e = e
or_left false b e = refl

or_right : (a b : Bool) → (a || b) ≡ false → b ≡ false
or_right true b e = let z : true ≡ false = e in (λ i. bad (z i)) ∙ refl
  where
    bad : Bool → Bool
    bad true = b
    bad false = false
or_right false b e = e

away : (s : Sheet) (m : Mark) (ms : List Marked) → AllKnown s ms → among (block_of s m) ms ≡ false → Absent m ms
away s m [] g e = tt
away s m (n ∷ ns) g e = (
  λ q. eqb-false (block_of s m) n.block (or_left (eqb (block_of s m) n.block) (among (block_of s m) ns) e) (ap (block_of s) q ∙ sym g.0.block),
  away s m ns g.1 (or_right (eqb (block_of s m) n.block) (among (block_of s m) ns) e),
)

pub unmarked : (s : Sheet) → s.header.channels ≤ 3 → (m : Mark) → Place s m → (ms : List Marked) → AllKnown s ms → Absent m ms → among (block_of s m) ms ≡ false
unmarked s few m p [] g a = refl
unmarked s few m p (n ∷ ns) g a =
    rw (ne_eqb (block_of s m) n.block (λ e. a.0 (one_block s m n.at few p g.0.place (e ∙ g.0.block)))) (unmarked s few m p ns g.1 a.1)

pub legal_both : (s : Sheet) (before ms ns : List Marked) → LegalMarks s before ms → LegalMarks s (before ++ ms) ns → LegalMarks s before (ms ++ ns)
legal_both s before [] ns l k = subst (λ (x : List Marked). LegalMarks s x ns) (append-nil before) k
legal_both s before (m ∷ ms) ns l k = (l.0, legal_both s (before ++ m ∷ []) ms ns l.1 (subst (λ (x : List Marked). LegalMarks s x ns) (sym (append_assoc before (m ∷ []) ms)) k))

pub among_both : (b : ℕ) (ms ns : List Marked) → among b (ms ++ ns) ≡ (among b ms || among b ns)
among_both b [] ns = refl
among_both b (m ∷ ms) ns = ap (λ (x : Bool). eqb b m.block || x) (among_both b ms ns) ∙ sym (assoc (eqb b m.block) (among b ms) (among b ns))
  where
    assoc : (x y z : Bool) → ((x || y) || z) ≡ (x || (y || z))
    assoc true y z = refl
    assoc false y z = refl

-- The marks of sheet t, each put by f into sheet b, where other marks stand in front

module _ (t b : Sheet) (f : Mark → Mark) (inj : (m n : Mark) → f m ≡ f n → m ≡ n) (place : (m : Mark) → Place t m → Place b (f m)) (few : b.header.channels ≤ 3) where
  pub known_kept : (ms : List Marked) → AllKnown t ms → AllKnown b (kept f b ms)
  known_kept [] g = tt
  known_kept (m ∷ ms) g = (record { block = refl; place = place m.at g.0.place }, known_kept ms g.1)

  absent_kept : (m : Mark) (ms : List Marked) → Absent m ms → Absent (f m) (kept f b ms)
  absent_kept m [] a = tt
  absent_kept m (n ∷ ns) a = (λ e. a.0 (inj m n.at e), absent_kept m ns a.1)

  pub legal_kept : (front : List Marked) → AllKnown b front → ((m : Mark) → Place t m → Absent (f m) front) → (before ms : List Marked) → AllKnown t before → LegalMarks t before ms
      → LegalMarks b (front ++ kept f b before) (kept f b ms)
  legal_kept front k a before [] g l = tt
  legal_kept front k a before (m ∷ ms) g l =
      let p = place-of t m.at l.0.has in
      let q = place m.at p in
      let o : among (block_of t m.at) before ≡ false = ap (λ (x : ℕ). among x before) (sym l.0.block) ∙ l.0.once in
      let K = kept f b before in
      let N : Marked = marked (f m.at) (block_of b (f m.at)) in
      let e : front ++ kept f b (before ++ m ∷ []) ≡ (front ++ K) ++ N ∷ [] = ap (λ (x : List Marked). front ++ x) (kept_both f b before (m ∷ [])) ∙ sym (append_assoc front K (N ∷ [])) in (
        record {
          block = refl;
          has = has_of b (f m.at) q;
          once = unmarked b few (f m.at) q (front ++ K) (known_both b front K k (known_kept before g)) (absent_both (f m.at) front K (a m.at p) (absent_kept m.at before (away t m.at before g o)));
        },
        subst (λ (x : List Marked). LegalMarks b x (kept f b ms)) e (legal_kept front k a (before ++ m ∷ []) ms (known_both t before (m ∷ []) g (record { block = l.0.block; place = p }, tt)) l.1),
      )

  -- a block is marked there where it is marked in its own sheet
  pub among_kept : t.header.channels ≤ 3 → (m : Mark) → Place t m → (ms : List Marked) → AllKnown t ms → among (block_of b (f m)) (kept f b ms) ≡ among (block_of t m) ms
  among_kept less m p [] g = refl
  among_kept less m p (n ∷ ns) g = (λ i. here (eqb (block_of t m) n.block) refl i || among_kept less m p ns g.1 i)
    where
      here : (x : Bool) → eqb (block_of t m) n.block ≡ x → eqb (block_of b (f m)) (block_of b (f n.at)) ≡ eqb (block_of t m) n.block
      here true e =
          let o = one_block t m n.at less p g.0.place (eqb-true (block_of t m) n.block e ∙ g.0.block) in
          eq-eqb (block_of b (f m)) (block_of b (f n.at)) (ap (λ (x : Mark). block_of b (f x)) o) ∙ sym e
      here false e =
          ne_eqb (block_of b (f m)) (block_of b (f n.at))
          (λ q. eqb-false (block_of t m) n.block e (ap (block_of t) (inj m n.at (one_block b (f m) (f n.at) few (place m p) (place n.at g.0.place) q)) ∙ sym g.0.block))
          ∙ sym e
