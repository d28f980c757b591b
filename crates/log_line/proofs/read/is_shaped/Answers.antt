-- `read::is_shaped` meets its contract.
use Rattle.log_line.specs.Reading.{shaped}
use lib.ListN.{length, get_or}
use lib.Dec.{eqb}
use borrow.Author.Tests.{lt-ltb, le-ltb, le-leb, lt-leb, eq-eqb, ne_eqb}
use native.Mathlib.Omega.{arith}
use Prim.Native.Nat.{ℕ, ◌+◌, ◌-◌, ◌%◌, ◌≤◌, ◌<◌}
use mathlib.Core.List.{List}
use mathlib.Core.Bool.{false}
use mathlib.Core.Path.{◌≡◌}
use Rattle.log_line.proofs.read.is_shaped.Goals as goal

module _ (l : List ℕ) (s : ℕ) where
  none : s ≡ 0 → false ≡ shaped s l
  unfolding shaped
  none h = rw (le-ltb 0 s (omega arith))

  module _ (h₁ : s ≡ 0 → ⊥) where
    many : 9 < s → false ≡ shaped s l
    unfolding shaped
    many h = rw (lt-ltb 0 s (omega (arith, h₁)), lt-leb s 9 h)

    module _ (h₂ : s ≤ 9) where
      short : length l < s + 14 → false ≡ shaped s l
      unfolding shaped
      short h = rw (lt-ltb 0 s (omega (arith, h₁)), le-leb s 9 h₂, lt-leb (s + 14) (length l) h)

      module _ (h₃ : s + 14 ≤ length l) where
        long : s + 38 < length l → false ≡ shaped s l
        unfolding shaped
        long h = rw (lt-ltb 0 s (omega (arith, h₁)), le-leb s 9 h₂, le-leb (s + 14) (length l) h₃, lt-leb (length l) (s + 38) h)

        module _ (h₄ : length l ≤ s + 38) where
          part : 0 < (length l - (s + 14)) % 3 → false ≡ shaped s l
          unfolding shaped
          part h =
              rw (
                lt-ltb 0 s (omega (arith, h₁)),
                le-leb s 9 h₂,
                le-leb (s + 14) (length l) h₃,
                le-leb (length l) (s + 38) h₄,
                ne_eqb ((length l - (s + 14)) % 3) 0 (λ q. omega arith),
              )

          module _ (h₅ : (length l - (s + 14)) % 3 ≤ 0) where
            off : (get_or l (s + 4) 0 ≡ 32 → ⊥) → false ≡ shaped s l
            unfolding shaped
            off h =
                rw (
                  lt-ltb 0 s (omega (arith, h₁)),
                  le-leb s 9 h₂,
                  le-leb (s + 14) (length l) h₃,
                  le-leb (length l) (s + 38) h₄,
                  eq-eqb ((length l - (s + 14)) % 3) 0 (omega arith),
                  ne_eqb (get_or l (s + 4) 0) 32 h,
                )

            last : get_or l (s + 4) 0 ≡ 32 → eqb (get_or l (length l - 1) 0) 10 ≡ shaped s l
            unfolding shaped
            last h =
                rw (
                  lt-ltb 0 s (omega (arith, h₁)),
                  le-leb s 9 h₂,
                  le-leb (s + 14) (length l) h₃,
                  le-leb (length l) (s + 38) h₄,
                  eq-eqb ((length l - (s + 14)) % 3) 0 (omega arith),
                  eq-eqb (get_or l (s + 4) 0) 32 h,
                )

pub returns-then-s-eq0 : goal.returns-then-s-eq0
returns-then-s-eq0 c =
    none c.args.line.now c.args.s c.if-s-eq0.true

pub returns-then-s-gt9 : goal.returns-then-s-gt9
returns-then-s-gt9 c =
    many c.args.line.now c.args.s c.if-s-eq0.false c.if-s-gt9.true

pub returns-then-n-s : goal.returns-then-n-s
returns-then-n-s c =
    short c.args.line.now c.args.s c.if-s-eq0.false c.if-s-gt9.false c.if-n-s.true

pub returns-then-s-n : goal.returns-then-s-n
returns-then-s-n c =
    long c.args.line.now c.args.s c.if-s-eq0.false c.if-s-gt9.false c.if-n-s.false c.if-s-n.true

pub returns-then-n-s-gt0 : goal.returns-then-n-s-gt0
returns-then-n-s-gt0 c =
    part c.args.line.now c.args.s c.if-s-eq0.false c.if-s-gt9.false c.if-n-s.false c.if-s-n.false c.if-n-s-gt0.true

pub returns-then-line-s-eq32 : goal.returns-then-line-s-eq32
returns-then-line-s-eq32 c =
    last c.args.line.now c.args.s c.if-s-eq0.false c.if-s-gt9.false c.if-n-s.false c.if-s-n.false c.if-n-s-gt0.false
    c.if-line-s-eq32.true

pub returns : goal.returns
returns c =
    off c.args.line.now c.args.s c.if-s-eq0.false c.if-s-gt9.false c.if-n-s.false c.if-s-n.false c.if-n-s-gt0.false
    c.if-line-s-eq32.false
