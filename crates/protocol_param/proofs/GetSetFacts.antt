-- GetSet: its request and its response in a payload, value by value.
use mathlib.Core.Path.{◌≡◌, refl, sym, ap, ◌∙◌}
use mathlib.Core.Bool.{Bool, true, false}
use mathlib.Core.List.{List, [], ◌∷◌}
use Prim.Native.Nat.{ℕ, suc, ◌+◌, ◌-◌, ◌≤◌, ◌<◌}
use native.Mathlib.Omega.{arith}
use borrow.Author.Tests.{lt-ltb, ltb-true, ltb-false}
use lib.Dec.{ltb, lit≤}
use lib.IntN.{ℤ, pos}
use lib.ListN.{length, drop, length-drop}
use lib.Seq.{drop-drop}
use Rattle.bits.specs.Order.{Octets, unpack, from_bits}
use Rattle.bits.proofs.Bytes.{length-unpack, drop-unpack}
use Rattle.bits.proofs.Octets.{octets-drop}
use Rattle.shape.specs.Answer.{Answer, refused, got, refuse_if, map_answer}
use Rattle.shape.specs.Shape.{Shape, void, tag_width, Values, anything, decode, decoded}
use Rattle.shape.proofs.Reading.{value, head_read, head-short, tail-long, tail-got, refused-on, got-on}
use Rattle.protocol_param.specs.Value.{union, value_at, text_in, size_at, value_found}
use Rattle.protocol_param.specs.inside.Value.{sized}
use Rattle.protocol_param.specs.GetSetRequest.{name_only, request, request_text_in, request_name_at, request_name_in, request_of}
use Rattle.protocol_param.specs.GetSetResponse.{min_then, max_then, default_then, response, default_at, max_at, min_at, name_at, default_text_in, name_in, response_of}
use Rattle.protocol_param.specs.Laws.{request_found, response_found}
use Rattle.protocol_param.specs.declared.value.Value.{Value}
use Rattle.protocol_param.specs.declared.get_set_request.Request.{Request}
use Rattle.protocol_param.specs.declared.get_set_response.Response.{Response}
use Rattle.protocol_param.proofs.ValueFacts.{after, five, six, number_of, All, either, by_length, size-at-lt, value_read, padded-read, case-found, text-shown, size-shown, size-at-some}

-- ── the name ──

module _ (q : List ℕ) (o : Octets q) where
  name-long : 92 < length q → decode name_only (unpack q) ≡ refused 16
  name-long h = tail-long 92 anything q o h

  name-got : length q ≤ 92 → decode name_only (unpack q) ≡ got q
  name-got h = tail-got 92 anything q o h refl

-- ── one value, and what follows it ──

-- s from the padding on, k bits of it
module _ (n k : ℕ) (low : 2 ≤ n) (high : n ≤ 5) (e : 8 - tag_width n ≡ k) (d : Shape) (s : List ℕ) (o : Octets s) where
  abbrev reads : Answer (Values (union n d))
  reads = decode (void k (union n d)) (unpack s)

  stop : (i : ℕ) → sized n s ≡ refused i → reads ≡ refused i
  stop i h = padded-read n low high k e d s o ∙ ap (λ (a : Answer ℕ). after a (λ (j : ℕ). map_answer (value_found n d s) (decode d (unpack (drop j s))))) h

  go_on : All n s → reads ≡ map_answer (value_found n d s) (decode d (unpack (drop (size_at n s) s)))
  go_on a = padded-read n low high k e d s o ∙ ap (λ (a : Answer ℕ). after a (λ (j : ℕ). map_answer (value_found n d s) (decode d (unpack (drop j s))))) a.is

  -- q: what follows it
  module _ (a : All n s) (q : List ℕ) (f : q ≡ drop (size_at n s) s) where
    next : reads ≡ map_answer (value_found n d s) (decode d (unpack q))
    next = go_on a ∙ ap (λ (l : List ℕ). map_answer (value_found n d s) (decode d (unpack l))) (sym f)

    next-stop : (i : ℕ) → decode d (unpack q) ≡ refused i → reads ≡ refused i
    next-stop i h = refused-on (value_found n d s) next h

    next-got : (v : Values d) → decode d (unpack q) ≡ got v → reads ≡ got (value_found n d s v)
    next-got v h = got-on (value_found n d s) next h

-- ── the request ──

module _ (p : List ℕ) (o : Octets p) where
  abbrev rest : List ℕ
  rest = drop 1 p

  os : Octets rest
  os = octets-drop 1 p o

  abbrev with_index : Values (union 5 name_only) → Values request
  with_index v = (pos (from_bits 13 (unpack p)), v)

  abbrev at_value : Answer (Values (union 5 name_only))
  at_value = after (sized 5 rest) (λ (j : ℕ). map_answer (value_found 5 name_only rest) (decode name_only (unpack (drop j rest))))

  to-value : 2 ≤ length p → decoded request p ≡ map_answer with_index at_value
  to-value h =
      let b : drop 13 (unpack p) ≡ drop (8 - tag_width 5) (unpack rest) =
      sym (drop-drop 5 8 (unpack p)) ∙ ap (λ (l : List Bool). drop 5 l) (drop-unpack 1 p) ∙ ap (λ (j : ℕ). drop j (unpack rest)) (sym five) in
      head_read (value 13 ∷ []) (union 5 name_only) (unpack p) 0 (omega (arith, length-unpack p))
      ∙ ap (λ (l : List Bool). map_answer with_index (decode (union 5 name_only) l)) b
      ∙ ap (λ (a : Answer (Values (union 5 name_only))). map_answer with_index a) (value_read 5 (lit≤ tt) (lit≤ tt) name_only rest os)

  short : length p < 2 → decoded request p ≡ map_answer with_index at_value
  unfolding sized refuse_if map_answer
  short h =
      rw (lt-ltb (length rest) 1 (omega (arith, length-drop 1 p))) (head-short (value 13 ∷ []) (union 5 name_only) (unpack p) (omega (arith, length-unpack p)))

  reads-value : decoded request p ≡ map_answer with_index at_value
  reads-value = go (ltb (length p) 2) refl where
    go : (b : Bool) → ltb (length p) 2 ≡ b → decoded request p ≡ map_answer with_index at_value
    go true e = short (ltb-true (length p) 2 e)
    go false e = to-value (ltb-false (length p) 2 e)

  pub request-stop : (i : ℕ) → sized 5 rest ≡ refused i → decoded request p ≡ refused i
  request-stop i h = refused-on with_index reads-value (ap (λ (a : Answer ℕ). after a (λ (j : ℕ). map_answer (value_found 5 name_only rest) (decode name_only (unpack (drop j rest))))) h)

  request-name : request_name_in p ≡ drop (size_at 5 rest) rest
  unfolding request_name_at
  request-name = sym (drop-drop (size_at 5 rest) 1 p)

  module _ (a : All 5 rest) where
    value-next : at_value ≡ map_answer (value_found 5 name_only rest) (decode name_only (unpack (request_name_in p)))
    value-next =
        ap (λ (a : Answer ℕ). after a (λ (j : ℕ). map_answer (value_found 5 name_only rest) (decode name_only (unpack (drop j rest))))) a.is
        ∙ ap (λ (l : List ℕ). map_answer (value_found 5 name_only rest) (decode name_only (unpack l))) (sym request-name)

    on : Octets (request_name_in p)
    on = octets-drop (request_name_at p) p o

    pub request-long : 92 < length (request_name_in p) → decoded request p ≡ refused 16
    request-long h = refused-on with_index reads-value (refused-on (value_found 5 name_only rest) value-next (name-long (request_name_in p) on h))

    pub request-held : length (request_name_in p) ≤ 92 → decoded request p ≡ got (request_found p)
    request-held h = got-on with_index reads-value (got-on (value_found 5 name_only rest) value-next (name-got (request_name_in p) on h))

    pub request-there : 2 ≤ length p
    request-there = omega (arith, length-drop 1 p, a.there, size-at-some 5 rest)

    -- the struct of what the code reads at each place
    pub request-made : (i : ℤ) (v : Value) (k at l : ℕ) → i ≡ pos (from_bits 13 (unpack p)) → v ≡ value_at 5 rest → k ≡ length (request_text_in p) → at ≡ request_name_at p
        → l ≡ length (request_name_in p)
        → ◌≡◌ {A = Request} (record { index = i; value = v; string_value = record { at = 3; len = k }; name = record { at = at; len = l } }) (request_of (request_found p))
    unfolding request_name_at
    request-made i v k at l ei ev ek ea el =
        rw (case-found (value_at 5 rest) (text_in rest) 5 name_only (request_name_in p), size-shown 5 rest a.there, text-shown rest, ei, ev, ek, ea, el)

-- ── the response ──

-- where the next value begins
pub next_place : (p : List ℕ) (n at at' r : ℕ) (l : List ℕ) → at ≡ at' → l ≡ drop at p → r ≡ size_at n l → at + r ≡ at' + size_at n (drop at' p)
next_place p n at at' r l e f g =
    ap (λ (k : ℕ). at + k) (g ∙ ap (λ (x : List ℕ). size_at n x) f) ∙ ap (λ (k : ℕ). k + size_at n (drop k p)) e

pub default_lt : (p : List ℕ) → default_at p < 258
unfolding default_at
default_lt p = size-at-lt 5 p

pub max-lt : (p : List ℕ) → max_at p < 516
unfolding max_at
max-lt p = omega (arith, default_lt p, size-at-lt 5 (drop (default_at p) p))

pub min-lt : (p : List ℕ) → min_at p < 774
unfolding min_at
min-lt p = omega (arith, max-lt p, size-at-lt 3 (drop (max_at p) p))

module _ (p : List ℕ) (o : Octets p) where
  abbrev s₂ : List ℕ
  s₂ = drop (default_at p) p

  abbrev s₃ : List ℕ
  s₃ = drop (max_at p) p

  abbrev s₄ : List ℕ
  s₄ = drop (min_at p) p

  o₂ : Octets s₂
  o₂ = octets-drop (default_at p) p o

  o₃ : Octets s₃
  o₃ = octets-drop (max_at p) p o

  o₄ : Octets s₄
  o₄ = octets-drop (min_at p) p o

  -- each begins where the one before it ends
  f₂ : s₂ ≡ drop (size_at 5 p) p
  unfolding default_at
  f₂ = refl

  f₃ : s₃ ≡ drop (size_at 5 s₂) s₂
  unfolding max_at
  f₃ = sym (drop-drop (size_at 5 s₂) (default_at p) p)

  f₄ : s₄ ≡ drop (size_at 3 s₃) s₃
  unfolding min_at
  f₄ = sym (drop-drop (size_at 3 s₃) (max_at p) p)

  f₅ : name_in p ≡ drop (size_at 3 s₄) s₄
  unfolding name_at
  f₅ = sym (drop-drop (size_at 3 s₄) (min_at p) p)

  pub stop-value : (i : ℕ) → sized 5 p ≡ refused i → decoded response p ≡ refused i
  stop-value i h = stop 5 5 (lit≤ tt) (lit≤ tt) five default_then p o i h

  module _ (a₁ : All 5 p) where
    pub stop-default : (i : ℕ) → sized 5 s₂ ≡ refused i → decoded response p ≡ refused i
    stop-default i h = next-stop 5 5 (lit≤ tt) (lit≤ tt) five default_then p o a₁ s₂ f₂ i (stop 5 5 (lit≤ tt) (lit≤ tt) five max_then s₂ o₂ i h)

    module _ (a₂ : All 5 s₂) where
      at-max : (i : ℕ) → decode max_then (unpack s₃) ≡ refused i → decoded response p ≡ refused i
      at-max i h =
          next-stop 5 5 (lit≤ tt) (lit≤ tt) five default_then p o a₁ s₂ f₂ i (next-stop 5 5 (lit≤ tt) (lit≤ tt) five max_then s₂ o₂ a₂ s₃ f₃ i h)

      pub stop-max : (i : ℕ) → sized 3 s₃ ≡ refused i → decoded response p ≡ refused i
      stop-max i h = at-max i (stop 3 6 (lit≤ tt) (lit≤ tt) six min_then s₃ o₃ i h)

      module _ (a₃ : All 3 s₃) where
        pub stop-min : (i : ℕ) → sized 3 s₄ ≡ refused i → decoded response p ≡ refused i
        stop-min i h = at-max i (next-stop 3 6 (lit≤ tt) (lit≤ tt) six min_then s₃ o₃ a₃ s₄ f₄ i (stop 3 6 (lit≤ tt) (lit≤ tt) six name_only s₄ o₄ i h))

        module _ (a₄ : All 3 s₄) where
          oₙ : Octets (name_in p)
          oₙ = octets-drop (name_at p) p o

          pub response-long : 92 < length (name_in p) → decoded response p ≡ refused 16
          response-long h =
              at-max 16 (next-stop 3 6 (lit≤ tt) (lit≤ tt) six min_then s₃ o₃ a₃ s₄ f₄ 16
              (next-stop 3 6 (lit≤ tt) (lit≤ tt) six name_only s₄ o₄ a₄ (name_in p) f₅ 16 (name-long (name_in p) oₙ h)))

          pub response-held : length (name_in p) ≤ 92 → decoded response p ≡ got (response_found p)
          response-held h =
              next-got 5 5 (lit≤ tt) (lit≤ tt) five default_then p o a₁ s₂ f₂ _
              (next-got 5 5 (lit≤ tt) (lit≤ tt) five max_then s₂ o₂ a₂ s₃ f₃ _
              (next-got 3 6 (lit≤ tt) (lit≤ tt) six min_then s₃ o₃ a₃ s₄ f₄ _
              (next-got 3 6 (lit≤ tt) (lit≤ tt) six name_only s₄ o₄ a₄ (name_in p) f₅ _ (name-got (name_in p) oₙ h))))

          -- the struct of what the code reads at each place
          pub response-made : (v₁ v₂ v₃ v₄ : Value) (k₁ k₂ at₂ at l : ℕ) → v₁ ≡ value_at 5 p → k₁ ≡ length (text_in p) → v₂ ≡ value_at 5 s₂ → at₂ ≡ default_at p
              → k₂ ≡ length (default_text_in p)
              → v₃ ≡ value_at 3 s₃ → v₄ ≡ value_at 3 s₄ → at ≡ name_at p → l ≡ length (name_in p)
              → ◌≡◌ {A = Response}
              (record {
                value = v₁;
                string_value = record { at = 2; len = k₁ };
                default_value = v₂;
                default_string_value = record { at = at₂ + 2; len = k₂ };
                max_value = v₃;
                min_value = v₄;
                name = record { at = at; len = l };
              })
              (response_of (response_found p))
          unfolding default_at max_at min_at name_at
          response-made v₁ v₂ v₃ v₄ k₁ k₂ at₂ at l e₁ f₁ e₂ g h e₃ e₄ m n =
              rw (
                case-found (value_at 5 p) (text_in p) 5 default_then _,
                case-found (value_at 5 s₂) (text_in s₂) 5 max_then _,
                case-found (value_at 3 s₃) (text_in s₃) 3 min_then _,
                case-found (value_at 3 s₄) (text_in s₄) 3 name_only _,
                size-shown 5 p a₁.there,
                size-shown 5 s₂ a₂.there,
                size-shown 3 s₃ a₃.there,
                size-shown 3 s₄ a₄.there,
                text-shown p,
                text-shown s₂,
                e₁,
                f₁,
                e₂,
                g,
                h,
                e₃,
                e₄,
                m,
                n,
              )

-- a response that is not refused
pub record GoodResponse (p : List ℕ) (o : Octets p) : Type 0 where
  pub one : All 5 p
  pub two : All 5 (drop (default_at p) p)
  pub three : All 3 (drop (max_at p) p)
  pub four : All 3 (drop (min_at p) p)
  pub held : decoded response p ≡ got (response_found p)

pub response-good : (p : List ℕ) (o : Octets p) → 0 ≡ number_of (decoded response p) → GoodResponse p o
response-good p o e =
    either 5 p (λ k h. absurd (let z : 0 ≡ suc k = e ∙ ap number_of (stop-value p o (suc k) h) in omega arith))
    (λ a. either 5 (drop (default_at p) p) (λ k h. absurd (let z : 0 ≡ suc k = e ∙ ap number_of (stop-default p o a (suc k) h) in omega arith))
    (λ b. either 3 (drop (max_at p) p) (λ k h. absurd (let z : 0 ≡ suc k = e ∙ ap number_of (stop-max p o a b (suc k) h) in omega arith))
    (λ c. either 3 (drop (min_at p) p) (λ k h. absurd (let z : 0 ≡ suc k = e ∙ ap number_of (stop-min p o a b c (suc k) h) in omega arith))
    (λ d. by_length (length (name_in p)) 92 (λ h. absurd (let z : 0 ≡ 16 = e ∙ ap number_of (response-long p o a b c d h) in omega arith))
    (λ h. record { one = a; two = b; three = c; four = d; held = response-held p o a b c d h })))))
