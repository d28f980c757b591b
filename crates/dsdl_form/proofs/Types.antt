-- A type word by its halves.
use mathlib.Core.Path.{◌≡◌, sym, ap, ◌∙◌}
use mathlib.Core.Bool.{Bool, true, false}
use mathlib.Core.List.{List, ◌++◌}
use Prim.Native.Nat.{ℕ, ◌-◌}
use native.Mathlib.Omega.{arith}
use lib.ListN.{length, take, drop}
use Rattle.dsdl_text.specs.declared.class.Class.TheVariants.{Unbracketed}
use Rattle.dsdl_text.specs.Class.{run}
use Rattle.dsdl_text.specs.Names.{has_dot, full_name}
use Rattle.dsdl_text.proofs.Choices.{by}
use Rattle.dsdl_text.proofs.Parts.{rest}
use Rattle.dsdl_type.specs.declared.base.Base.{Base}
use Rattle.dsdl_type.specs.Base.{base_text, size_text, base_of, is_nested}
use Rattle.dsdl_line.specs.declared.shape.Cast.{Cast}
use Rattle.dsdl.specs.Form.{cast_form}
use Rattle.dsdl_form.specs.inside.Parts.{base_form}

module _ (w : List ℕ) (n : ℕ) (e : n ≡ run Unbracketed w) where
  pub base-is : take (n - 0) w ≡ base_text w
  base-is = let z : n - 0 ≡ n = omega arith in ap (λ (k : ℕ). take k w) (z ∙ e)

  pub size_is : take (length w - n) (drop n w) ≡ size_text w
  size_is = rest n w ∙ ap (λ (k : ℕ). drop k w) e

-- ── without the size ──

pub with-dot : (space b : List ℕ) → has_dot b ≡ true → b ≡ full_name space b
with-dot space b e = rw e

pub without-dot : (space b : List ℕ) → has_dot b ≡ false → space ++ b ≡ full_name space b
without-dot space b e = rw e

-- a base as it was read
module _ (space : List ℕ) (c : Cast) (b : List ℕ) {x : Base} {r : Bool} (e : x ≡ base_of b) (q : r ≡ is_nested x) where
  pub nested : r ≡ true → full_name space b ≡ base_form space c b
  nested t = let z : is_nested (base_of b) ≡ true = ap is_nested (sym e) ∙ by q t in rw z

  pub primitive : r ≡ false → cast_form c ++ b ≡ base_form space c b
  primitive t = let z : is_nested (base_of b) ≡ false = ap is_nested (sym e) ∙ by q t in rw z
