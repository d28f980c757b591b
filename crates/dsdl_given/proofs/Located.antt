-- Laws of the places of definitions.
use mathlib.Core.Path.{◌≡◌, refl, sym, ap, ap₂, ◌∙◌}
use mathlib.Core.Bool.{Bool, true, false}
use mathlib.Core.List.{List, ◌∷◌}
use Prim.Native.Nat.{ℕ, zero, suc, ◌+◌, ◌*◌, ◌-◌, ◌≤◌, ◌<◌}
use native.Mathlib.Nat.{sub-zero}
use native.Mathlib.Omega.{arith}
use borrow.Author.Tests.{ltb-true, ltb-false}
use lib.Dec.{ltb}
use lib.ListN.{length, take, drop, get_or, set}
use lib.Seq.{get_or-set_same, get_or-set_other, drop-drop}
use Rattle.bits.specs.Part.{span}
use Rattle.bits.specs.Tabulate.{tabulate}
use Rattle.dsdl_given.specs.Given.{Definition, definitions, definition_max, length_at, too_long}
use Rattle.dsdl_given.specs.inside.Places.{part, definition_at, given, Bounds, Holds, Inside}
use Rattle.dsdl_given.proofs.Turns.{tab-turn, tab-end}
use Rattle.dsdl_given.proofs.Lengths.{pair, Reaches, reaches}

-- one bound more
pub one_more : (by : ℕ → ℕ) (ends : List ℕ) (at k x : ℕ) → k + 1 < length ends → Bounds by ends k → at ≡ get_or ends k 0 → x ≡ by k
    → Bounds by (set ends (k + 1) (at + x)) (k + 1)
one_more by ends at k x h b e f = record { first = kept 0 (omega arith) ∙ b.first; next = λ j l. go j l (ltb j k) refl } where
  kept : (j : ℕ) → j < k + 1 → get_or (set ends (k + 1) (at + x)) j 0 ≡ get_or ends j 0
  kept j l = get_or-set_other ends (k + 1) j (at + x) 0 (λ q. omega arith)

  go : (j : ℕ) → j < k + 1 → (t : Bool) → ltb j k ≡ t → get_or (set ends (k + 1) (at + x)) (j + 1) 0 ≡ get_or (set ends (k + 1) (at + x)) j 0 + by j
  go j l true t = let i = ltb-true j k t in rw (kept (j + 1) (omega arith), kept j l) (b.next j i)
  go j l false t =
      let q : j ≡ k = omega (arith, ltb-false j k t) in
      rw (q, get_or-set_same ends (k + 1) (at + x) 0 h, kept k (omega arith)) (omega arith)

-- ── the definitions, by bounds as by lengths ──

module _ (lengths bounds : List ℕ) (n : ℕ) (bound : Bounds (length_at lengths) bounds (n * 2)) where
  abbrev at : ℕ → ℕ
  at k = get_or bounds k 0

  abbrev by : ℕ → ℕ
  by = length_at lengths

  module _ (source : List ℕ) (i : ℕ) (inside : i < n) where
    abbrev from : List ℕ
    from = drop (at (i * 2)) source

    to-text : at (i * 2 + 1) ≡ at (i * 2) + by (i * 2)
    to-text = bound.next (i * 2) (omega arith)

    to_end : at (i * 2 + 1 + 1) ≡ at (i * 2 + 1) + by (i * 2 + 1)
    to_end = bound.next (i * 2 + 1) (omega arith)

    name : span from 0 (by (i * 2)) ≡ part source bounds (i * 2)
    name = let e : by (i * 2) ≡ at (i * 2 + 1) - at (i * 2) = omega (arith, to-text) in ap (λ (j : ℕ). take j from) e

    text : span from (by (i * 2)) (by (i * 2 + 1)) ≡ part source bounds (i * 2 + 1)
    text =
        let e : at (i * 2) + by (i * 2) ≡ at (i * 2 + 1) = sym to-text in
        let f : by (i * 2 + 1) ≡ at (i * 2 + 1 + 1) - at (i * 2 + 1) = omega (arith, to_end) in
        ap₂ take f (drop-drop (by (i * 2)) (at (i * 2)) source ∙ ap (λ (j : ℕ). drop j source) e)

    rest : drop (by (i * 2) + by (i * 2 + 1)) from ≡ drop (at ((i + 1) * 2)) source
    rest =
        let e : i * 2 + 1 + 1 ≡ (i + 1) * 2 = omega arith in
        let f : at (i * 2) + (by (i * 2) + by (i * 2 + 1)) ≡ at (i * 2 + 1 + 1) = omega (arith, to-text, to_end) in
        drop-drop (by (i * 2) + by (i * 2 + 1)) (at (i * 2)) source ∙ ap (λ (j : ℕ). drop j source) (f ∙ ap at e)

  placed-from : (source : List ℕ) (m i : ℕ) → i + m ≡ n
      → definitions (drop (at (i * 2)) source) (tabulate by (i * 2) (n * 2 - i * 2)) ≡ tabulate (definition_at source bounds) i (n - i)
  unfolding definitions
  placed-from source zero i e = rw (tab-end by (i * 2) (n * 2) (omega arith), tab-end (definition_at source bounds) i n (omega arith))
  placed-from source (suc m) i e =
      let h : i < n = omega arith in
      let k : i * 2 + 2 ≡ (i + 1) * 2 = omega arith in
      ap (definitions (from source i h)) (pair by (i * 2) (n * 2) (omega arith))
      ∙ ap₂ (λ (d : Definition) (ds : List Definition). d ∷ ds) (ap₂ (λ (x y : List ℕ). record { name = x; text = y }) (name source i h) (text source i h))
      (ap₂ (λ (l : List ℕ) (j : ℕ). definitions l (tabulate by j (n * 2 - j))) (rest source i h) k ∙ placed-from source m (i + 1) (omega arith))
      ∙ sym (tab-turn (definition_at source bounds) i n h)

  pub placed : (source : List ℕ) → definitions source (tabulate by 0 (n * 2)) ≡ given source bounds n
  placed source =
      ap₂ (λ (j k : ℕ). definitions (drop j source) (tabulate by 0 k)) (sym bound.first) (sym (sub-zero (n * 2)))
      ∙ (placed-from source n 0 (omega arith) ∙ ap (tabulate (definition_at source bounds) 0) (sub-zero n))

  -- ── inside the source ──

  holds-from : (source : List ℕ) → n ≤ definition_max → (m i : ℕ) → i + m ≡ n → at (i * 2) ≤ length source
      → too_long (length source - at (i * 2)) (tabulate by (i * 2) (n * 2 - i * 2)) ≡ false → (j : ℕ) → i ≤ j → j < n → Holds source bounds j
  holds-from source few zero i e h t j a b = absurd (omega arith)
  holds-from source few (suc m) i e h t j a b = go (λ d t. holds-from source few m (i + 1) (omega arith) d t j) (ltb i j) refl where
    inside : i < n
    inside = omega arith

    r : Reaches (length source - at (i * 2)) (by (i * 2)) (by (i * 2 + 1)) (λ (l : ℕ). too_long l (tabulate by (i * 2 + 2) (n * 2 - (i * 2 + 2))))
    r = reaches by (i * 2) (n * 2) (length source - at (i * 2)) (omega arith) t

    here : Holds source bounds i
    here =
        let x = to-text source i inside in
        let y = to_end source i inside in
        record { few = omega arith; name = omega arith; text = omega arith; inside = omega (arith, r.inside); short = omega (arith, r.short) }

    go : (at ((i + 1) * 2) ≤ length source → too_long (length source - at ((i + 1) * 2)) (tabulate by ((i + 1) * 2) (n * 2 - (i + 1) * 2)) ≡ false → i + 1 ≤ j → j < n → Holds source bounds j)
        → (c : Bool) → ltb i j ≡ c → Holds source bounds j
    go later true q =
        let k : i * 2 + 2 ≡ (i + 1) * 2 = omega arith in
        let l : i * 2 + 1 + 1 ≡ (i + 1) * 2 = omega arith in
        let x = to-text source i inside in
        let y = to_end source i inside in
        let d : at ((i + 1) * 2) ≡ at (i * 2) + (by (i * 2) + by (i * 2 + 1)) = ap at (sym l) ∙ omega arith in
        let z : length source - at (i * 2) - (by (i * 2) + by (i * 2 + 1)) ≡ length source - at ((i + 1) * 2) = omega arith in
        later (omega (arith, r.inside)) (ap₂ (λ (s k : ℕ). too_long s (tabulate by k (n * 2 - k))) (sym z) (sym k) ∙ r.rest) (omega (arith, ltb-true i j q)) b
    go later false q = let k : i ≡ j = omega (arith, ltb-false i j q) in rw k at here

  pub inside : (source : List ℕ) → n ≤ definition_max → too_long (length source) (tabulate by 0 (n * 2)) ≡ false → Inside source bounds n
  inside source few t =
      let z : length source - at 0 ≡ length source = ap (λ (k : ℕ). length source - k) bound.first ∙ sub-zero (length source) in
      record {
        few = few;
        holds = λ i h. holds-from source few n 0 (omega arith) (omega (arith, bound.first)) (ap₂ (λ (s k : ℕ). too_long s (tabulate by 0 k)) z (sub-zero (n * 2)) ∙ t) i (omega arith) h;
      }
