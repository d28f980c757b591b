-- `get_set_response::put_values` meets its contract: the four follow each other.
use mathlib.Core.Path.{◌≡◌, sym, subst, ◌∙◌}
use mathlib.Core.List.{[]}
use Prim.Native.Nat.{ℕ, ◌+◌, ◌≤◌}
use native.Mathlib.Nat.{zero-add}
use lib.Dec.{lit≤}
use lib.ListN.{length}
use Rattle.protocol_param.proofs.WriteFacts.{size_none, fourth-fits, values-stored}
use Rattle.protocol_param.specs.Value.{size_of}
use Rattle.protocol_param.proofs.get_set_response.put_values.Goals as goal

pub put-requires : goal.put-requires
put-requires c =
    let a = c.args in
    let n₁ = size_of a.v (length a.string_value.now) in
    let n₂ = size_of a.default_value (length a.default_string_value.now) in
    let e₁ : c.put-a.result ≡ 0 + n₁ = c.put-a.ensures.0 in
    let e₂ : c.put-b.result ≡ c.put-a.result + n₂ = c.put-b.ensures.0 in
    let e₃ : c.put-c.result ≡ c.put-b.result + size_of a.max_value 0 = c.put-c.ensures.0 in
    let f = fourth-fits n₁ n₂ (size_of a.max_value 0) (size_of a.min_value 0) c.put-a.result c.put-b.result c.put-c.result (length a.out.now) e₁ e₂ e₃
    c.requires.0.0 c.requires.0.1 (size_none a.max_value) c.requires.1 in
    let k : length c.put-c.new.out ≡ length a.out.now = c.put-c.auto.out ∙ c.put-b.auto.out ∙ c.put-a.auto.out in
    ((lit≤ tt, lit≤ tt), (f.0, subst (λ (l : ℕ). c.put-c.result + size_of a.min_value 0 ≤ l) (sym k) f.1))

pub returns : goal.returns
returns c =
    let a = c.args in
    let n₁ = size_of a.v (length a.string_value.now) in
    let n₂ = size_of a.default_value (length a.default_string_value.now) in
    let e₁ : c.put-a.result ≡ 0 + n₁ = c.put-a.ensures.0 in
    let e₂ : c.put-b.result ≡ c.put-a.result + n₂ = c.put-b.ensures.0 in
    let e₃ : c.put-c.result ≡ c.put-b.result + size_of a.max_value 0 = c.put-c.ensures.0 in
    values-stored a.v a.string_value.now a.default_value a.default_string_value.now a.max_value a.min_value [] a.out.now
    c.put-a.new.out c.put-b.new.out c.put-c.new.out c.put.new.out c.put-a.result c.put-b.result c.put-c.result c.requires.1
    (e₁ ∙ zero-add n₁) e₂ e₃ c.put-a.ensures.1 c.put-b.ensures.1 c.put-c.ensures.1 c.put.ensures.1
