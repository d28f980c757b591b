-- The steps of reading a line, on plain variables.
use Rattle.std.specs.Prelude.{Some, None}
use Rattle.std.specs.Prelude as std
use mathlib.Core.Path.{◌≡◌, refl, sym, ap, ◌∙◌}
use mathlib.Core.Bool.{Bool, true, false, false≢true, ◌&&◌}
use mathlib.Core.List.{List, [], ◌∷◌, ◌++◌, append-nil}
use mathlib.Core.Option.{Option, none, some}
use Prim.Native.Nat.{ℕ, zero, suc, ◌+◌, ◌*◌, ◌-◌, ◌/◌, ◌%◌, ◌^◌, ◌≤◌, ◌<◌}
use native.Mathlib.Nat.{add-zero, sub-zero, pow-le-pow_right}
use native.Mathlib.Omega.{arith}
use borrow.Author.Tests.{lt-ltb, le-leb, eq-eqb, ne_eqb, ltb-true, leb-true, eqb-true}
use lib.Dec.{lit<, ltb, leb, eqb}
use lib.ListN.{replicate, length, get_or, take, drop, set, take-append-drop}
use lib.Seq.{drop-drop, get_or-drop, append_snoc, take-suc-set, length-take-le}
use Rattle.bits.specs.Part.{span}
use Rattle.bits.proofs.Splice.{length-span}
use Rattle.rules.specs.Tests.{pick}
use Rattle.digits.specs.Digits.{count_of, number}
use Rattle.digits.specs.inside.Text.{as_number}
use Rattle.digits.proofs.Digits.{number_lt}
use Rattle.log_line.specs.Reading.{pair_of, paired, pairs, shaped, framed, fields_of, line_with}
use Rattle.log_line.specs.declared.read.Line.{Line}
use Rattle.rules.specs.Frame.{Frame}

-- ── numbers ──

pub is : (o : Option ℕ) (n : ℕ) → Some n ≡ as_number o → o ≡ some n
is none n e = let z : ◌≡◌ {A = ℕ} 0 1 = cc in absurd (omega arith)
is (some m) n e = cc

pub not : (o : Option ℕ) → None ≡ as_number o → o ≡ none
not none e = refl
not (some m) e = let z : ◌≡◌ {A = ℕ} 0 1 = cc in absurd (omega arith)

-- ── one byte ──

module _ (l : List ℕ) (at : ℕ) where
  space : get_or l at 0 ≡ 32 → pair_of (drop at l) ≡ number 16 (span l (at + 1) 2)
  unfolding pair_of
  space h =
      let g : get_or (drop at l) 0 0 ≡ 32 = get_or-drop at l 0 0 ∙ ap (λ (k : ℕ). get_or l k 0) (add-zero at) ∙ h in
      rw (eq-eqb (get_or (drop at l) 0 0) 32 g, drop-drop 1 at l)

  pub byte : (n : ℕ) → get_or l at 0 ≡ 32 → number 16 (span l (at + 1) 2) ≡ some n → Some n ≡ as_number (pair_of (drop at l))
  byte n h e = sym (ap as_number (space h ∙ e))

  pub no_byte : get_or l at 0 ≡ 32 → number 16 (span l (at + 1) 2) ≡ none → None ≡ as_number (pair_of (drop at l))
  no_byte h e = sym (ap as_number (space h ∙ e))

  pub no-space : (get_or l at 0 ≡ 32 → ⊥) → None ≡ as_number (pair_of (drop at l))
  unfolding pair_of
  no-space h =
      let g : get_or (drop at l) 0 0 ≡ get_or l at 0 = get_or-drop at l 0 0 ∙ ap (λ (k : ℕ). get_or l k 0) (add-zero at) in
      rw (ne_eqb (get_or (drop at l) 0 0) 32 (λ q. h (sym g ∙ q)))

-- a byte is two digits, so below 256
pub pair_lt : (l : List ℕ) (b : ℕ) → 3 ≤ length l → pair_of l ≡ some b → b < 256
unfolding pair_of
pair_lt l b h e = go (eqb (get_or l 0 0) 32) e where
  go : (t : Bool) → pick t (number 16 (span l 1 2)) none ≡ some b → b < 256
  go false q = let z : ◌≡◌ {A = ℕ} 0 1 = cc in absurd (omega arith)
  go true q = rw (length-span l 1 2 (omega arith)) at (number_lt 16 (omega arith) (omega arith) (span l 1 2) b q)

-- ── bytes ──

-- bytes in hand, in front of those to come
abbrev pub ahead : List ℕ → Option (List ℕ) → Option (List ℕ)
ahead bs none = none
ahead bs (some more) = some (bs ++ more)

ahead-one : (bs : List ℕ) (b : ℕ) (o : Option (List ℕ)) → ahead bs (paired (some b) o) ≡ ahead (bs ++ (b ∷ [])) o
ahead-one bs b none = refl
ahead-one bs b (some more) = ap some (sym (append_snoc bs b more))

module _ (l bytes : List ℕ) (at k j : ℕ) (more : j < k) (room : at + k * 3 ≤ length l)
    (inv : pairs k (drop at l) ≡ ahead (take j bytes) (pairs (k - j) (drop (at + j * 3) l))) where
  next : pairs (k - j) (drop (at + j * 3) l) ≡ paired (pair_of (drop (at + j * 3) l)) (pairs (k - suc j) (drop (at + suc j * 3) l))
  unfolding pairs
  next =
      let e : k - j ≡ suc (k - suc j) = omega arith in
      let f : at + j * 3 + 3 ≡ at + suc j * 3 = omega arith in
      rw (e, drop-drop 3 (at + j * 3) l, f)

  pub on : (b : ℕ) → pair_of (drop (at + j * 3) l) ≡ some b → j < length bytes
      → pairs k (drop at l) ≡ ahead (take (suc j) (set bytes j b)) (pairs (k - suc j) (drop (at + suc j * 3) l))
  on b p n =
      inv ∙ ap (ahead (take j bytes)) (next ∙ ap (λ (o : Option ℕ). paired o (pairs (k - suc j) (drop (at + suc j * 3) l))) p)
      ∙ ahead-one (take j bytes) b (pairs (k - suc j) (drop (at + suc j * 3) l))
      ∙ ap (λ (x : List ℕ). ahead x (pairs (k - suc j) (drop (at + suc j * 3) l))) (sym (take-suc-set bytes j b n))

  pub off : pair_of (drop (at + j * 3) l) ≡ none → none ≡ pairs k (drop at l)
  off p =
      sym (inv ∙ ap (ahead (take j bytes)) (next ∙ ap (λ (o : Option ℕ). paired o (pairs (k - suc j) (drop (at + suc j * 3) l))) p))

pub done : (l bytes : List ℕ) (at k j : ℕ) → j ≡ k → pairs k (drop at l) ≡ ahead (take j bytes) (pairs (k - j) (drop (at + j * 3) l))
    → some (take k bytes) ≡ pairs k (drop at l)
unfolding pairs
done l bytes at k j e inv =
    let z : k - j ≡ 0 = omega arith in
    let inv' : pairs k (drop at l) ≡ some (take j bytes ++ []) = rw z at inv in
    sym (inv' ∙ ap some (append-nil (take j bytes) ∙ ap (λ (n : ℕ). take n bytes) e))

pub begun : (l : List ℕ) (at k : ℕ) → pairs k (drop at l) ≡ ahead [] (pairs (k - 0) (drop (at + 0 * 3) l))
begun l at k = rw (sub-zero k, add-zero at) (none_ahead (pairs k (drop at l))) where
  none_ahead : (o : Option (List ℕ)) → o ≡ ahead [] o
  none_ahead none = refl
  none_ahead (some bs) = refl

-- ── the shape ──

and_both : (a b : Bool) → (a && b) ≡ true → (a ≡ true) × (b ≡ true)
and_both true b e = (refl, e)
and_both false b e = absurd (false≢true e)

pub record Shape (s : ℕ) (l : List ℕ) : Type 0 where
  pub some : 0 < s
  pub few : s ≤ 9
  pub long : s + 14 ≤ length l
  pub short : length l ≤ s + 38
  pub whole : (length l - (s + 14)) % 3 ≡ 0
  pub space : get_or l (s + 4) 0 ≡ 32
  pub end : get_or l (length l - 1) 0 ≡ 10

pub shape : (s : ℕ) (l : List ℕ) → shaped s l ≡ true → Shape s l
unfolding shaped
shape s l e =
    let a = and_both (ltb 0 s) _ e in
    let b = and_both (leb s 9) _ a.1 in
    let c = and_both (leb (s + 14) (length l)) _ b.1 in
    let d = and_both (leb (length l) (s + 38)) _ c.1 in
    let f = and_both (eqb ((length l - (s + 14)) % 3) 0) _ d.1 in
    let g = and_both (eqb (get_or l (s + 4) 0) 32) _ f.1 in
    record {
      some = ltb-true 0 s a.0;
      few = leb-true s 9 b.0;
      long = leb-true (s + 14) (length l) c.0;
      short = leb-true (length l) (s + 38) d.0;
      whole = eqb-true ((length l - (s + 14)) % 3) 0 f.0;
      space = eqb-true (get_or l (s + 4) 0) 32 g.0;
      end = eqb-true (get_or l (length l - 1) 0) 10 g.1;
    }

pub reshape : (s : ℕ) (l : List ℕ) → Shape s l → shaped s l ≡ true
unfolding shaped
reshape s l h =
    rw (
      lt-ltb 0 s h.some,
      le-leb s 9 h.few,
      le-leb (s + 14) (length l) h.long,
      le-leb (length l) (s + 38) h.short,
      eq-eqb ((length l - (s + 14)) % 3) 0 h.whole,
      eq-eqb (get_or l (s + 4) 0) 32 h.space,
      eq-eqb (get_or l (length l - 1) 0) 10 h.end,
    )

-- ── the numbers ──

pub unread : (s : ℕ) (says : Option Frame) → says ≡ none → None ≡ line_with s says
unread s says n = sym (ap (line_with s) n)

pub drop-zeros : (k n : ℕ) → drop {A = ℕ} k (replicate n 0) ≡ replicate (n - k) 0
drop-zeros zero n = ap (λ (i : ℕ). replicate i 0) (sym (sub-zero n))
drop-zeros (suc k) zero = let z : 0 - suc k ≡ 0 = omega arith in ap (λ (i : ℕ). replicate i 0) (sym z)
drop-zeros (suc k) (suc n) = let z : n - k ≡ suc n - suc k = omega arith in drop-zeros k n ∙ ap (λ (i : ℕ). replicate i 0) z

-- a frame that was read, in the struct
pub told : (s k id time : ℕ) (bytes : List ℕ) (says : Option Frame) → length bytes ≡ 8 → k ≤ 8 → drop k bytes ≡ replicate (8 - k) 0
    → some (record { id = id; bytes = take k bytes; time = time }) ≡ says
    → ◌≡◌ {A = std.Option Line} (Some (record { head = s + 4; id = id; time = time; len = k; bytes = bytes })) (line_with s says)
told s k id time bytes says n h z e =
    let l : length (take k bytes) ≡ k = length-take-le k bytes (omega arith) in
    let b : take k bytes ++ replicate (8 - k) 0 ≡ bytes = rw (← z) (take-append-drop k bytes) in
    rw (← e, l, b)

module _ (s : ℕ) (l : List ℕ) where
  pub no-seconds : number 10 (span l 0 s) ≡ none → fields_of s l ≡ none
  unfolding fields_of framed
  no-seconds e = rw e

  module _ (sec : ℕ) (e₁ : number 10 (span l 0 s) ≡ some sec) where
    needless : (o p : Option ℕ) (q : Option (List ℕ)) → (count_of sec ≡ s → ⊥) → framed s (some sec) o p q ≡ none
    unfolding framed
    needless none p q h = refl
    needless (some x) none q h = refl
    needless (some x) (some y) none h = refl
    needless (some x) (some y) (some z) h = rw (ne_eqb (count_of sec) s h)

    pub needless-zero : (count_of sec ≡ s → ⊥) → fields_of s l ≡ none
    unfolding fields_of
    needless-zero h = rw e₁ (needless (number 10 (span l (s + 1) 3)) (number 16 (span l (s + 5) 8))
        (pairs ((length l - (s + 14)) / 3) (drop (s + 13) l)) h)

    pub no-milliseconds : number 10 (span l (s + 1) 3) ≡ none → fields_of s l ≡ none
    unfolding fields_of framed
    no-milliseconds e = rw (e₁, e)

    module _ (ms : ℕ) (e₂ : number 10 (span l (s + 1) 3) ≡ some ms) where
      pub no-id : number 16 (span l (s + 5) 8) ≡ none → fields_of s l ≡ none
      unfolding fields_of framed
      no-id e = rw (e₁, e₂, e)

      module _ (id : ℕ) (e₃ : number 16 (span l (s + 5) 8) ≡ some id) where
        pub no-data : none ≡ pairs ((length l - (s + 14)) / 3) (drop (s + 13) l) → fields_of s l ≡ none
        unfolding fields_of framed
        no-data e = rw (e₁, e₂, e₃, ← e)

        pub read_all : count_of sec ≡ s → (bs : List ℕ) → some bs ≡ pairs ((length l - (s + 14)) / 3) (drop (s + 13) l)
            → some (record { id = id; bytes = bs; time = sec * 1000000 + ms * 1000 }) ≡ fields_of s l
        unfolding fields_of framed
        read_all h bs e = rw (e₁, e₂, e₃, ← e, eq-eqb (count_of sec) s h)

-- a field of n digits in base b
pub field_lt : (b : ℕ) → b ≤ 16 → 0 < b → (l : List ℕ) (at n v : ℕ) → at + n ≤ length l → number b (span l at n) ≡ some v → v < b ^ n
field_lt b few pos l at n v h e = rw (length-span l at n h) at (number_lt b few pos (span l at n) v e)

pub sec-lt : (s : ℕ) (l : List ℕ) (v : ℕ) → s ≤ 9 → s ≤ length l → number 10 (span l 0 s) ≡ some v → v < 10 ^ 9
sec-lt s l v few h e =
    let p : 10 ^ s ≤ 10 ^ 9 = pow-le-pow_right (lit< tt) few in
    omega (arith, field_lt 10 (omega arith) (omega arith) l 0 s v (omega arith) e)
