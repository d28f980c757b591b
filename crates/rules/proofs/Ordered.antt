-- The frame checks in the order of the code: the numbers of 2, 3 and 19, those of 4 to 6, and 7; and what a frame that passes them is.
use mathlib.Core.Path.{◌≡◌, refl, sym, ap, ◌∙◌}
use mathlib.Core.Bool.{Bool, true, false, not, ◌&&◌, ◌||◌}
use mathlib.Core.List.{List, [], ◌∷◌, ◌++◌}
use mathlib.Core.Option.{Option, none, some}
use Prim.Native.Nat.{ℕ, zero, suc, ◌^◌, ◌≤◌, ◌<◌}
use native.Mathlib.Omega.{arith}
use borrow.Author.Tests.{leb-false, eqb-false, ltb-false}
use lib.Dec.{eqb, ltb}
use lib.ListN.{length}
use Rattle.rules.specs.Check.{Test, large_id, bad_length, no_interface, unnamed_service, bad_tail, for_another, not_subscribed, read_tests, head_tests, first, frame_check, or_zero}
use Rattle.rules.specs.Frame.{Arrival, Stream, unnamed, stream_of, tail_of, is_start, is_end, toggle_of}
use Rattle.rules.specs.Setup.{Setup}
use Rattle.rules.specs.Table.{or_else}
use Rattle.rules.specs.Tests.{pick}

-- ── numbers of checks ──

first-append : (xs ys : List Test) → first (xs ++ ys) ≡ or_else (first xs) (first ys)
first-append [] ys = refl
first-append (t ∷ ts) ys = go t.holds (first-append ts ys)
  where
    go : (b : Bool) → first (ts ++ ys) ≡ or_else (first ts) (first ys)
        → pick b (some t.number) (first (ts ++ ys)) ≡ or_else (pick b (some t.number) (first ts)) (first ys)
    go true e = refl
    go false e = e

-- a number above 0 is that of a check
pub refuses : (o : Option ℕ) (r : ℕ) → r ≡ or_zero o → 0 < r → o ≡ some r
refuses none r e h = absurd (omega arith)
refuses (some n) r e h = ap (λ (x : ℕ). some x) (sym e)

-- 0 is the number of no check
read_none : (id n i : ℕ) → or_zero (first (read_tests id n i)) ≡ 0 → first (read_tests id n i) ≡ none
read_none id n i = go (large_id id) (bad_length n) (no_interface i) where
  go : (a b c : Bool) → or_zero (pick a (some 2) (pick b (some 3) (pick c (some 19) none))) ≡ 0
      → pick {A = Option ℕ} a (some 2) (pick b (some 3) (pick c (some 19) none)) ≡ none
  go true b c z = absurd (omega arith)
  go false true c z = absurd (omega arith)
  go false false true z = absurd (omega arith)
  go false false false z = refl

head-none : (own : ℕ) (d : Stream) (start last toggle : Bool) (n : ℕ) → or_zero (first (head_tests own d start last toggle n)) ≡ 0 → first (head_tests own d start last toggle n) ≡ none
head-none own d start last toggle n = go (unnamed_service d) (bad_tail (unnamed d) start last toggle n) (for_another own d) where
  go : (a b c : Bool) → or_zero (pick a (some 4) (pick b (some 5) (pick c (some 6) none))) ≡ 0 → pick {A = Option ℕ} a (some 4) (pick b (some 5) (pick c (some 6) none)) ≡ none
  go true b c z = absurd (omega arith)
  go false true c z = absurd (omega arith)
  go false false true z = absurd (omega arith)
  go false false false z = refl

-- ── a frame that can be read, and one that passes ──

or_left : (a b : Bool) → (a || b) ≡ false → a ≡ false
or_left true b e = e
or_left false b e = refl

or_right : (a b : Bool) → (a || b) ≡ false → b ≡ false
or_right true b e = let z : ◌≡◌ {A = ℕ} 0 1 = cc in absurd (omega arith)
or_right false b e = e

pub record Readable (id n i : ℕ) : Type 0 where
  pub small : id < 2 ^ 29
  pub some_bytes : 0 < n
  pub few_bytes : n ≤ 8
  pub interface : i < 3

pub readable : (id n i r : ℕ) → r ≡ or_zero (first (read_tests id n i)) → r ≤ 0 → Readable id n i
readable id n i r e z = go (large_id id) refl (bad_length n) refl (no_interface i) refl (sym e) where
  pos : (n : ℕ) → (n ≡ 0 → ⊥) → 0 < n
  pos zero z = absurd (z refl)
  pos (suc n) z = omega arith

  go : (a : Bool) → large_id id ≡ a → (b : Bool) → bad_length n ≡ b → (c : Bool) → no_interface i ≡ c
      → or_zero (pick a (some 2) (pick b (some 3) (pick c (some 19) none))) ≡ r → Readable id n i
  go true p b q c t e = absurd (omega arith)
  go false p true q c t e = absurd (omega arith)
  go false p false q true t e = absurd (omega arith)
  go false p false q false t e =
      record {
        small = leb-false (2 ^ 29) id p;
        some_bytes = pos n (eqb-false n 0 (or_left (eqb n 0) (ltb 8 n) q));
        few_bytes = ltb-false 8 n (or_right (eqb n 0) (ltb 8 n) q);
        interface = leb-false 3 i t;
      }

-- of a head that 4 to 6 let through: a start has toggle 0, a frame that is not anonymous a named source, and one that is no end eight bytes
pub record HeadPasses (d : Stream) (start last toggle : Bool) (n : ℕ) : Type 0 where
  pub first : start ≡ true → toggle ≡ false
  pub named : unnamed d ≡ false → d.source ≡ 0 → ⊥
  pub whole : last ≡ false → 8 ≤ n

pub head-passes : (own : ℕ) (d : Stream) (start last toggle : Bool) (n r : ℕ) → r ≡ or_zero (first (head_tests own d start last toggle n)) → r ≤ 0 → HeadPasses d start last toggle n
head-passes own d start last toggle n r e z = go (unnamed_service d) refl (bad_tail (unnamed d) start last toggle n) refl (sym e) where
  named : (b : Bool) → eqb d.transfer_type 0 ≡ b → (not b && (eqb d.source 0 || eqb d.destination 0)) ≡ false → (b && eqb d.source 0) ≡ false → eqb d.source 0 ≡ false
  named true e p q = q
  named false e p q = or_left (eqb d.source 0) (eqb d.destination 0) p

  off : (b c : Bool) → (b && c) ≡ false → b ≡ true → c ≡ false
  off true c e k = e
  off false c e k = let z : ◌≡◌ {A = ℕ} 0 1 = cc in absurd (omega arith)

  go : (a : Bool) → unnamed_service d ≡ a → (b : Bool) → bad_tail (unnamed d) start last toggle n ≡ b
      → or_zero (pick a (some 4) (pick b (some 5) (pick (for_another own d) (some 6) none))) ≡ r → HeadPasses d start last toggle n
  go true p b q e = absurd (omega arith)
  go false p true q e = absurd (omega arith)
  go false p false q e =
      record {
        first = off start toggle (or_left (start && toggle) _ q);
        named = λ a. eqb-false d.source 0 (named (eqb d.transfer_type 0) refl p a);
        whole =
            λ e. ltb-false n 8 (off (not last) (ltb n 8) (or_left (not last && ltb n 8) _ (or_right (unnamed d && not (start && last)) _ (or_right (start && toggle) _ q)))
            (ap not e));
      }

-- ── the first check that refuses ──

module _ (u : Setup) (a : Arrival) where
  abbrev pub reads : Option ℕ
  reads = first (read_tests a.frame.id (length a.frame.bytes) a.interface)

  abbrev pub heads : Option ℕ
  heads =
      first (head_tests u.own (stream_of a.frame.id) (is_start (tail_of a.frame.bytes)) (is_end (tail_of a.frame.bytes))
      (toggle_of (tail_of a.frame.bytes)) (length a.frame.bytes))

  in-order : frame_check u a ≡ or_else reads (or_else heads (pick (not_subscribed u a.frame) (some 7) none))
  unfolding frame_check
  in-order =
      let hs =
      head_tests u.own (stream_of a.frame.id) (is_start (tail_of a.frame.bytes)) (is_end (tail_of a.frame.bytes))
      (toggle_of (tail_of a.frame.bytes)) (length a.frame.bytes) in
      let last : List Test = record { holds = not_subscribed u a.frame; number = 7 } ∷ [] in
      first-append (read_tests a.frame.id (length a.frame.bytes) a.interface) (hs ++ last) ∙ ap (or_else reads) (first-append hs last)

  pub read-refuses : (r : ℕ) → r ≡ or_zero reads → 0 < r → frame_check u a ≡ some r
  read-refuses r e h = rw (in-order, refuses reads r e h)

  module _ (r : ℕ) (e : r ≡ or_zero reads) (z : r ≤ 0) where
    reads_none : reads ≡ none
    reads_none = read_none a.frame.id (length a.frame.bytes) a.interface (sym e ∙ omega arith)

    pub head-refuses : (k : ℕ) → k ≡ or_zero heads → 0 < k → frame_check u a ≡ some k
    head-refuses k e h = rw (in-order, reads_none, refuses heads k e h)

    -- only 7 is left
    pub heads-pass : (k : ℕ) → k ≡ or_zero heads → k ≤ 0 → frame_check u a ≡ pick (not_subscribed u a.frame) (some 7) none
    heads-pass k d y =
        let h : heads ≡ none =
        head-none u.own (stream_of a.frame.id) (is_start (tail_of a.frame.bytes)) (is_end (tail_of a.frame.bytes))
        (toggle_of (tail_of a.frame.bytes)) (length a.frame.bytes) (sym d ∙ omega arith) in
        rw (in-order, reads_none, h)
