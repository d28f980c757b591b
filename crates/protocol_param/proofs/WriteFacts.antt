-- Values as they are written: tags, lists that fit, bits and lengths, over every number of cases and whatever follows.
use mathlib.Core.Path.{◌≡◌, refl, sym, ap, ◌∙◌}
use mathlib.Core.Bool.{Bool, true, false, ◌&&◌}
use mathlib.Core.List.{List, [], ◌∷◌, ◌++◌, append-nil, append_assoc}
use Prim.Native.Nat.{ℕ, ◌+◌, ◌*◌, ◌-◌, ◌^◌, ◌≤◌, ◌<◌}
use native.Mathlib.Omega.{arith}
use borrow.Author.Tests.{lt-ltb, leb-true}
use lib.Dec.{ltb, leb, lit≤}
use lib.IntN.{ℤ}
use lib.ListN.{length, length-append}
use Rattle.bits.specs.Order.{Octets, to_bits, unpack, store}
use Rattle.bits.specs.Width.{width_of}
use Rattle.bits.proofs.Numbers.{length-to_bits}
use Rattle.bits.proofs.Bytes.{length-unpack}
use Rattle.shape.specs.Cast.{unsigned, saturated, cast_bits}
use Rattle.shape.specs.Shape.{Shape, void, tag_width, Values, item_bits, encode, tags, fits}
use Rattle.shape.proofs.Fields.{and-true, length-item_bits}
use Rattle.shape.proofs.Writing.{more-from, more, all-bytes, item-bytes}
use Rattle.protocol_param.specs.Value.{union, value_values, size_of}
use Rattle.protocol_param.specs.inside.Value.{tag_of, text_bits, content_bits, union_bits, padded_bits, value_bits, all_known, text_fits}
use Rattle.protocol_param.specs.GetSetRequest.{name_only, request}
use Rattle.protocol_param.specs.GetSetResponse.{min_then, max_then, default_then, response, response_values}
use Rattle.protocol_param.specs.declared.value.Value.{Value}
use Rattle.protocol_param.specs.declared.value.Value.TheVariants.{Empty, Integer, Real, Boolean, Text, Unknown}
use denote.Laws.{Is}
use denote.Enum.Declared.{row}
use denote.Enum.Laws.{val, owed}
use mir.Syntax.{w64}
use mir.Val.{SFits}
use Rattle.protocol_param.specs.contracts.value.Value.{the_type}
use Rattle.protocol_param.proofs.value.Value.TheLaws.{the_laws}
use Rattle.protocol_param.proofs.ValueFacts.{eight, three, two, five, six, narrow, size-some}

-- numbers are those of their types
abbrev pub Held : Value → Type 0
Held Empty = Unit {0}
Held (Integer z) = SFits w64 z
Held (Real x) = x < 2 ^ 32
Held (Boolean z) = SFits w64 z
Held Text = Unit {0}
Held Unknown = Unit {0}

-- every value that a function is given is so
pub held : (x : Value) → Is (row the_type) x (val the_type the_laws x ∷ []) → Held x
held Empty g = tt
held (Integer z) g = record { sfits = (owed the_type the_laws (Integer z) (val the_type the_laws (Integer z) ∷ []) g).0.1 }
held (Real x) g = (owed the_type the_laws (Real x) (val the_type the_laws (Real x) ∷ []) g).0.1
held (Boolean z) g = record { sfits = (owed the_type the_laws (Boolean z) (val the_type the_laws (Boolean z) ∷ []) g).0.1 }
held Text g = tt
held Unknown g = tt

module _ (n : ℕ) (d : Shape) (rest : Values d) where
  pub tags-are : (x : Value) (text : List ℕ) → tags (union n d) (value_values x text n d rest) ≡ ltb (tag_of x) n && tags d rest
  tags-are Empty text = refl
  tags-are (Integer z) text = refl
  tags-are (Real x) text = refl
  tags-are (Boolean z) text = refl
  tags-are Text text = refl
  tags-are Unknown text = refl

  pub fits-are : (x : Value) (text : List ℕ) → Held x → Octets text → fits (union n d) (value_values x text n d rest) ≡ text_fits x text && fits d rest
  unfolding fits
  fits-are Empty text h o = refl
  fits-are (Integer z) text h o = refl
  fits-are (Real x) text h o = rw (lt-ltb x (2 ^ 32) h)
  fits-are (Boolean z) text h o = refl
  fits-are Text text h o = rw (all-bytes text o)
  fits-are Unknown text h o = refl

  pub bits_are : (x : Value) (text : List ℕ) → encode (union n d) (value_values x text n d rest) ≡ union_bits n x text ++ encode d rest
  unfolding encode
  bits_are Empty text = ap (λ (b : List Bool). b ++ encode d rest) (sym (append-nil (to_bits (tag_width n) 0)))
  bits_are (Integer z) text = sym (append_assoc (to_bits (tag_width n) 1) (content_bits (Integer z) text) (encode d rest))
  bits_are (Real x) text = sym (append_assoc (to_bits (tag_width n) 2) (content_bits (Real x) text) (encode d rest))
  bits_are (Boolean z) text = sym (append_assoc (to_bits (tag_width n) 3) (content_bits (Boolean z) text) (encode d rest))
  bits_are Text text =
      ap (λ (b : List Bool). to_bits (tag_width n) 4 ++ b) (sym (append_assoc (to_bits (width_of 128) (length text)) (item_bits 8 text) (encode d rest)))
      ∙ sym (append_assoc (to_bits (tag_width n) 4) (text_bits text) (encode d rest))
  bits_are Unknown text = ap (λ (b : List Bool). b ++ encode d rest) (sym (append-nil (to_bits (tag_width n) 5)))

pub content-length : (x : Value) (text : List ℕ) → length (content_bits x text) + 8 ≡ size_of x (length text) * 8
content-length Empty text = refl
content-length (Integer z) text = ap (λ (k : ℕ). k + 8) (length-to_bits 64 _)
content-length (Real x) text = ap (λ (k : ℕ). k + 8) (length-to_bits 32 x)
content-length (Boolean z) text = ap (λ (k : ℕ). k + 8) (length-to_bits 8 _)
content-length Text text =
    omega (arith, length-append (to_bits (width_of 128) (length text)) (item_bits 8 text), length-to_bits (width_of 128) (length text), length-item_bits 8 text, eight)
content-length Unknown text = refl

pub union-length : (n : ℕ) (x : Value) (text : List ℕ) → length (union_bits n x text) + 8 ≡ tag_width n + size_of x (length text) * 8
union-length n x text =
    omega (arith, length-append (to_bits (tag_width n) (tag_of x)) (content_bits x text), length-to_bits (tag_width n) (tag_of x), content-length x text)

-- ── the code ──

module _ (x : Value) (text : List ℕ) where
  pub fits-other : (tag_of x ≡ 4 → ⊥) → true ≡ text_fits x text
  fits-other h = go x h where
    go : (y : Value) → (tag_of y ≡ 4 → ⊥) → true ≡ text_fits y text
    go Empty h = refl
    go (Integer z) h = refl
    go (Real b) h = refl
    go (Boolean z) h = refl
    go Text h = absurd (h refl)
    go Unknown h = refl

  pub fits-text : tag_of x ≡ 4 → leb (length text) 128 ≡ text_fits x text
  fits-text h = go x h where
    go : (y : Value) → tag_of y ≡ 4 → leb (length text) 128 ≡ text_fits y text
    go Empty h = absurd (omega arith)
    go (Integer z) h = absurd (omega arith)
    go (Real b) h = absurd (omega arith)
    go (Boolean z) h = absurd (omega arith)
    go Text h = refl
    go Unknown h = absurd (omega arith)

-- a value that fits is short
pub size_fits : (x : Value) (text : List ℕ) → text_fits x text ≡ true → size_of x (length text) ≤ 130
size_fits Empty text h = lit≤ tt
size_fits (Integer z) text h = lit≤ tt
size_fits (Real b) text h = lit≤ tt
size_fits (Boolean z) text h = lit≤ tt
size_fits Text text h = omega (arith, leb-true (length text) 128 h)
size_fits Unknown text h = lit≤ tt

-- one without a text is shorter
pub size_none : (x : Value) → size_of x 0 ≤ 9
size_none Empty = lit≤ tt
size_none (Integer z) = lit≤ tt
size_none (Real b) = lit≤ tt
size_none (Boolean z) = lit≤ tt
size_none Text = lit≤ tt
size_none Unknown = lit≤ tt

-- where the fourth of four values begins, and that it fits
pub fourth-fits : (n₁ n₂ n₃ n₄ r₁ r₂ r₃ l : ℕ) → r₁ ≡ 0 + n₁ → r₂ ≡ r₁ + n₂ → r₃ ≡ r₂ + n₃ → n₁ ≤ 130 → n₂ ≤ 130 → n₃ ≤ 9 → n₁ + n₂ + n₃ + n₄ ≤ l
    → (r₃ < 65535) × (r₃ + n₄ ≤ l)
fourth-fits n₁ n₂ n₃ n₄ r₁ r₂ r₃ l e₁ e₂ e₃ h₁ h₂ h₃ h = (omega arith, omega arith)

-- three tests, as the code joins them
pub three-tests : (p q r a b : Bool) → a ≡ p → b ≡ q → p && (q && r) ≡ (a && b) && r
three-tests p q r a b e f = rw (e, f) (go p) where
  go : (x : Bool) → x && (q && r) ≡ (x && q) && r
  go true = refl
  go false = refl

-- the first value that is of no case decides
module _ (v w a b : Value) where
  pub not_first : ltb (tag_of v) 5 ≡ false → false ≡ all_known v w a b
  not_first e = rw e

  module _ (k : ltb (tag_of v) 5 ≡ true) where
    pub not-second : ltb (tag_of w) 5 ≡ false → false ≡ all_known v w a b
    not-second e = rw (k, e)

    module _ (l : ltb (tag_of w) 5 ≡ true) where
      pub not_third : ltb (tag_of a) 3 ≡ false → false ≡ all_known v w a b
      not_third e = rw (k, l, e)

      pub then-fourth : ltb (tag_of a) 3 ≡ true → ltb (tag_of b) 3 ≡ all_known v w a b
      then-fourth e = rw (k, l, e)

-- a text after its length
pub text-stored : (text m m₁ m₂ : List ℕ) (at w : ℕ) → w ≡ width_of 128 → at + 1 + length text ≤ length m → m₁ ≡ store m (at * 8) (to_bits w (length text))
    → m₂ ≡ store m₁ ((at + 1) * 8) (unpack text) → m₂ ≡ store m (at * 8) (text_bits text)
text-stored text m m₁ m₂ at w e h f g =
    let a = to_bits (width_of 128) (length text) in
    more-from (at * 8) m m₁ m₂ a (unpack text) ((at + 1) * 8) (f ∙ ap (λ (k : ℕ). store m (at * 8) (to_bits k (length text))) e)
    (omega (arith, length-to_bits (width_of 128) (length text), eight)) (omega arith) g
    ∙ ap (λ (b : List Bool). store m (at * 8) (a ++ b)) (sym (item-bytes text))

-- a tag, and the fields of its case
pub union-stored : (n : ℕ) → n ≤ 5 → (x : Value) (text m m₁ m₂ : List ℕ) (at w t : ℕ) → w ≡ tag_width n → t ≡ tag_of x → at + 1 ≤ length m
    → m₁ ≡ store m (at * 8 + (8 - w)) (to_bits w t) → m₂ ≡ store m₁ ((at + 1) * 8) (content_bits x text)
    → m₂ ≡ store m (at * 8 + (8 - tag_width n)) (union_bits n x text)
union-stored n top x text m m₁ m₂ at w t e g h f k =
    let q = to_bits (tag_width n) (tag_of x) in
    more-from (at * 8 + (8 - tag_width n)) m m₁ m₂ q (content_bits x text) ((at + 1) * 8)
    (f ∙ ap (λ (i : ℕ). store m (at * 8 + (8 - i)) (to_bits i t)) e ∙ ap (λ (i : ℕ). store m (at * 8 + (8 - tag_width n)) (to_bits (tag_width n) i)) g)
    (omega (arith, length-to_bits (tag_width n) (tag_of x), narrow n top)) (omega arith) k

-- padding, and a union
pub padded-stored : (n : ℕ) → n ≤ 5 → (x : Value) (text m m₁ m₂ : List ℕ) (at w : ℕ) → w ≡ tag_width n → at + 1 ≤ length m
    → m₁ ≡ store m (at * 8) (to_bits (8 - w) 0) → m₂ ≡ store m₁ (at * 8 + (8 - tag_width n)) (union_bits n x text) → m₂ ≡ store m (at * 8) (padded_bits n x text)
padded-stored n top x text m m₁ m₂ at w e h f k =
    more-from (at * 8) m m₁ m₂ (to_bits (8 - tag_width n) 0) (union_bits n x text) (at * 8 + (8 - tag_width n))
    (f ∙ ap (λ (i : ℕ). store m (at * 8) (to_bits (8 - i) 0)) e) (omega (arith, length-to_bits (8 - tag_width n) 0, narrow n top)) (omega (arith, narrow n top)) k

-- ── after padding of k bits ──

module _ (n k : ℕ) (e : 8 - tag_width n ≡ k) (d : Shape) (rest : Values d) (x : Value) (text : List ℕ) where
  pub padded_are : encode (void k (union n d)) (value_values x text n d rest) ≡ padded_bits n x text ++ encode d rest
  unfolding encode
  padded_are =
      ap (λ (j : ℕ). to_bits j 0 ++ encode (union n d) (value_values x text n d rest)) (sym e)
      ∙ ap (λ (b : List Bool). to_bits (8 - tag_width n) 0 ++ b) (bits_are n d rest x text)
      ∙ sym (append_assoc (to_bits (8 - tag_width n) 0) (union_bits n x text) (encode d rest))

pub padded-length : (n : ℕ) → tag_width n ≤ 8 → (x : Value) (text : List ℕ) → length (padded_bits n x text) ≡ size_of x (length text) * 8
padded-length n h x text =
    omega (arith, length-append (to_bits (8 - tag_width n) 0) (union_bits n x text), length-to_bits (8 - tag_width n) 0, union-length n x text)

-- ── the name ──

module _ (name : List ℕ) where
  name-bits : encode name_only name ≡ unpack name
  unfolding encode
  name-bits = item-bytes name

  name-fits : Octets name → fits name_only name ≡ leb (length name) 92
  unfolding fits
  name-fits o = rw (all-bytes name o) (and-true (leb (length name) 92))

-- ── the request ──

module _ (i : ℤ) (x : Value) (text name : List ℕ) where
  abbrev pub asked : Values request
  asked = (i, value_values x text 5 name_only name)

  abbrev pub index : ℕ
  index = cast_bits unsigned saturated 13 i

  pub request-tags : tags request asked ≡ ltb (tag_of x) 5
  request-tags = tags-are 5 name_only name x text ∙ and-true (ltb (tag_of x) 5)

  pub request-fits : Held x → Octets text → Octets name → fits request asked ≡ text_fits x text && leb (length name) 92
  unfolding fits
  request-fits h o q = fits-are 5 name_only name x text h o ∙ ap (λ (b : Bool). text_fits x text && b) (name-fits name q)

  request-bits : encode request asked ≡ to_bits 13 index ++ (union_bits 5 x text ++ unpack name)
  unfolding encode
  request-bits =
      ap (λ (b : List Bool). to_bits 13 index ++ b) (bits_are 5 name_only name x text ∙ ap (λ (b : List Bool). union_bits 5 x text ++ b) (name-bits name))

  front : length (to_bits 13 index ++ union_bits 5 x text) ≡ (1 + size_of x (length text)) * 8
  front = omega (arith, length-append (to_bits 13 index) (union_bits 5 x text), length-to_bits 13 index, union-length 5 x text, three)

  pub request-size : length (encode request asked) ≡ (1 + size_of x (length text) + length name) * 8
  request-size =
      ap length (request-bits ∙ sym (append_assoc (to_bits 13 index) (union_bits 5 x text) (unpack name)))
      ∙ length-append (to_bits 13 index ++ union_bits 5 x text) (unpack name) ∙ omega (arith, front, length-unpack name)

  pub request-stored : (m m₁ m₂ m₃ : List ℕ) → 1 + size_of x (length text) + length name ≤ length m → m₁ ≡ store m 0 (to_bits 13 index)
      → m₂ ≡ store m₁ (1 * 8 + (8 - tag_width 5)) (union_bits 5 x text) → m₃ ≡ store m₂ ((1 + size_of x (length text)) * 8) (unpack name)
      → m₃ ≡ store m 0 (encode request asked)
  request-stored m m₁ m₂ m₃ h e f g =
      more m m₂ m₃ (to_bits 13 index ++ union_bits 5 x text) (unpack name) ((1 + size_of x (length text)) * 8)
      (more m m₁ m₂ (to_bits 13 index) (union_bits 5 x text) (1 * 8 + (8 - tag_width 5)) e (omega (arith, length-to_bits 13 index, three)) (omega (arith, three, size-some x (length text))) f)
      front (omega arith) g
      ∙ ap (λ (b : List Bool). store m 0 b) (append_assoc (to_bits 13 index) (union_bits 5 x text) (unpack name) ∙ sym request-bits)

-- ── the response ──

none-fits : (x : Value) → text_fits x [] ≡ true
none-fits Empty = refl
none-fits (Integer z) = refl
none-fits (Real x) = refl
none-fits (Boolean z) = refl
none-fits Text = refl
none-fits Unknown = refl

module _ (v : Value) (text : List ℕ) (w : Value) (other : List ℕ) (a b : Value) (name : List ℕ) where
  abbrev pub told : Values response
  told = response_values v text w other a b name

  pub response-tags : tags response told ≡ all_known v w a b
  response-tags =
      tags-are 5 default_then _ v text ∙ ap (λ (c : Bool). ltb (tag_of v) 5 && c)
      (tags-are 5 max_then _ w other ∙ ap (λ (c : Bool). ltb (tag_of w) 5 && c)
      (tags-are 3 min_then _ a [] ∙ ap (λ (c : Bool). ltb (tag_of a) 3 && c) (tags-are 3 name_only name b [] ∙ and-true (ltb (tag_of b) 3))))

  pub response-fits : Held v → Octets text → Held w → Octets other → Held a → Held b → Octets name
      → fits response told ≡ text_fits v text && (text_fits w other && leb (length name) 92)
  unfolding fits
  response-fits h o k q i j r =
      fits-are 5 default_then _ v text h o ∙ ap (λ (c : Bool). text_fits v text && c)
      (fits-are 5 max_then _ w other k q ∙ ap (λ (c : Bool). text_fits w other && c)
      (fits-are 3 min_then _ a [] i tt ∙ ap (λ (c : Bool). c && fits min_then (value_values b [] 3 name_only name)) (none-fits a)
      ∙ fits-are 3 name_only name b [] j tt ∙ ap (λ (c : Bool). c && fits name_only name) (none-fits b) ∙ name-fits name r))

  abbrev sizes : ℕ
  sizes = size_of v (length text) + size_of w (length other) + size_of a 0 + size_of b 0

  abbrev p₁ : List Bool
  p₁ = padded_bits 5 v text

  abbrev p₂ : List Bool
  p₂ = padded_bits 5 w other

  abbrev p₃ : List Bool
  p₃ = padded_bits 3 a []

  abbrev p₄ : List Bool
  p₄ = padded_bits 3 b []

  values_length : length (value_bits v text w other a b) ≡ sizes * 8
  values_length =
      length-append p₁ (p₂ ++ (p₃ ++ p₄))
      ∙ omega (arith, length-append p₂ (p₃ ++ p₄), length-append p₃ p₄, padded-length 5 (omega (arith, three)) v text, padded-length 5 (omega (arith, three)) w other, padded-length 3 (omega (arith, two)) a [], padded-length 3 (omega (arith, two)) b [])

  response-bits : encode response told ≡ value_bits v text w other a b ++ unpack name
  response-bits =
      padded_are 5 5 five default_then _ v text
      ∙ ap (λ (c : List Bool). p₁ ++ c)
      (padded_are 5 5 five max_then _ w other
      ∙ ap (λ (c : List Bool). p₂ ++ c)
      (padded_are 3 6 six min_then _ a []
      ∙ ap (λ (c : List Bool). p₃ ++ c) (padded_are 3 6 six name_only name b [] ∙ ap (λ (c : List Bool). p₄ ++ c) (name-bits name))))
      ∙ sym (append_assoc p₁ (p₂ ++ (p₃ ++ p₄)) (unpack name)
      ∙ ap (λ (c : List Bool). p₁ ++ c) (append_assoc p₂ (p₃ ++ p₄) (unpack name) ∙ ap (λ (c : List Bool). p₂ ++ c) (append_assoc p₃ p₄ (unpack name))))

  pub response-size : length (encode response told) ≡ (sizes + length name) * 8
  response-size =
      ap length response-bits ∙ length-append (value_bits v text w other a b) (unpack name) ∙ omega (arith, values_length, length-unpack name)

  pub values-stored : (m m₁ m₂ m₃ m₄ : List ℕ) (k₁ k₂ k₃ : ℕ) → sizes ≤ length m → k₁ ≡ size_of v (length text) → k₂ ≡ k₁ + size_of w (length other) → k₃ ≡ k₂ + size_of a 0
      → m₁ ≡ store m (0 * 8) p₁ → m₂ ≡ store m₁ (k₁ * 8) p₂ → m₃ ≡ store m₂ (k₂ * 8) p₃ → m₄ ≡ store m₃ (k₃ * 8) p₄
      → m₄ ≡ store m 0 (value_bits v text w other a b)
  values-stored m m₁ m₂ m₃ m₄ k₁ k₂ k₃ h e₁ e₂ e₃ f₁ f₂ f₃ f₄ =
      let l₁ = padded-length 5 (omega (arith, three)) v text in
      let l₂ = padded-length 5 (omega (arith, three)) w other in
      let l₃ = padded-length 3 (omega (arith, two)) a [] in
      let g₂ = more m m₁ m₂ p₁ p₂ (k₁ * 8) f₁ (omega (arith, l₁)) (omega arith) f₂ in
      let g₃ = more m m₂ m₃ (p₁ ++ p₂) p₃ (k₂ * 8) g₂ (omega (arith, length-append p₁ p₂, l₁, l₂)) (omega arith) f₃ in
      let g₄ = more m m₃ m₄ ((p₁ ++ p₂) ++ p₃) p₄ (k₃ * 8) g₃ (omega (arith, length-append (p₁ ++ p₂) p₃, length-append p₁ p₂, l₁, l₂, l₃)) (omega arith) f₄ in
      g₄ ∙ ap (λ (c : List Bool). store m 0 c) (append_assoc (p₁ ++ p₂) p₃ p₄ ∙ append_assoc p₁ p₂ (p₃ ++ p₄))

  pub response-stored : (m m₁ m₂ : List ℕ) → sizes + length name ≤ length m → m₁ ≡ store m 0 (value_bits v text w other a b)
      → m₂ ≡ store m₁ (sizes * 8) (unpack name) → m₂ ≡ store m 0 (encode response told)
  response-stored m m₁ m₂ h e f =
      more m m₁ m₂ (value_bits v text w other a b) (unpack name) (sizes * 8) e values_length (omega arith) f ∙ ap (λ (c : List Bool). store m 0 c) (sym response-bits)
