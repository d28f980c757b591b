-- Text placed after text.
use mathlib.Core.Path.{◌≡◌, refl, sym, ap, ◌∙◌}
use mathlib.Core.List.{List, [], ◌++◌}
use Prim.Native.Nat.{ℕ, ◌+◌, ◌≤◌, ◌<◌}
use native.Mathlib.Nat.{add-zero}
use native.Mathlib.Omega.{arith}
use lib.ListN.{length, length-append}
use Rattle.bits.specs.Part.{splice}
use Rattle.bits.proofs.Splice.{splice-splice, splice-next}
use Rattle.digits.proofs.Puts.{splice-nil}
use Rattle.dsdl_form.specs.inside.Placed.{Fits, Placed}

-- no room
pub no_room : (a : List ℕ) (at : ℕ) (x : List ℕ) → length a < at + length x → Placed a a at (at + length x) x
no_room a at x h = record { out = λ r. absurd (omega arith); end = refl; same = refl }

-- nothing to place
pub nothing : (a : List ℕ) (at : ℕ) → Placed a a at at []
nothing a at = record { out = λ r. sym (splice-nil a at); end = sym (add-zero at); same = refl }

-- one text after another
pub next : {a b d : List ℕ} {at p q : ℕ} (x y : List ℕ) → Placed a b at p x → Placed b d p q y → Placed a d at q (x ++ y)
next {a} {b} {d} {at} {p} {q} x y f g =
    let l = length-append x y in
    record {
      out =
          λ r.
          let h : at + length x ≤ length a = omega arith in
          splice-next a b d at (length x) x y h refl (f.out h)
          (g.out (omega (arith, f.end, f.same)) ∙ ap (λ (k : ℕ). splice b k y) f.end);
      end = omega (arith, f.end, g.end);
      same = g.same ∙ f.same;
    }

-- what comes behind still has a place
pub behind : {a b : List ℕ} {at p : ℕ} (x y : List ℕ) → Placed a b at p x → Fits at (x ++ y) → Fits p y
behind x y f h = omega (arith, f.end, length-append x y)

-- the same text by another name
pub as-text : {a b : List ℕ} {at p : ℕ} {x y : List ℕ} → x ≡ y → Placed a b at p x → Placed a b at p y
as-text {a} {b} {at} {p} e f = rw e at f

pub fits-as : (at : ℕ) {x y : List ℕ} → x ≡ y → Fits at x → Fits at y
fits-as at e h = omega (arith, ap length e)

-- the first of two has a place
pub front : (at : ℕ) (x y : List ℕ) → Fits at (x ++ y) → Fits at x
front at x y h = omega (arith, length-append x y)

-- ── what is left to place ──

-- a part of the text is placed: what is left of it comes to p
pub record Left (a b : List ℕ) (at p : ℕ) (whole rest : List ℕ) : Type 0 where
  pub out : at + length whole ≤ length a → splice b p rest ≡ splice a at whole
  pub end : p + length rest ≡ at + length whole
  pub same : length b ≡ length a

pub all_left : (a : List ℕ) (at : ℕ) (x : List ℕ) → Left a a at at x x
all_left a at x = record { out = λ r. refl; end = refl; same = refl }

module _ {a b : List ℕ} {at p : ℕ} {whole : List ℕ} where
  pub less-left : {d : List ℕ} {q : ℕ} (x rest : List ℕ) → Left a b at p whole (x ++ rest) → Placed b d p q x → Left a d at q whole rest
  less-left {d} {q} x rest f g =
      let l = length-append x rest in
      record {
        out =
            λ r.
            let h : p + length x ≤ length b = omega (arith, f.end, f.same) in
            ap (λ (m : List ℕ). splice m q rest) (g.out h) ∙ (ap (λ (k : ℕ). splice (splice b p x) k rest) g.end
            ∙ (splice-splice b p x h rest ∙ f.out r));
        end = omega (arith, f.end, g.end);
        same = g.same ∙ f.same;
      }

  pub none_left : {d : List ℕ} {q : ℕ} (x : List ℕ) → Left a b at p whole x → Placed b d p q x → Placed a d at q whole
  none_left x f g =
      record {
        out = λ r. g.out (omega (arith, f.end, f.same)) ∙ f.out r;
        end = g.end ∙ f.end;
        same = g.same ∙ f.same;
      }

  pub left-fits : (x rest : List ℕ) → Left a b at p whole (x ++ rest) → Fits at whole → Fits p x
  left-fits x rest f h = omega (arith, f.end, length-append x rest)

pub left_as : {a b : List ℕ} {at p : ℕ} {whole x y : List ℕ} → x ≡ y → Left a b at p whole x → Left a b at p whole y
left_as e f = rw e at f
