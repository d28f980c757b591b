-- Laws of 41, 42 and of signatures by the values of all definitions, level by level.
use mathlib.Core.Path.{◌≡◌, refl, sym, ap, ◌∙◌}
use mathlib.Core.Bool.{Bool, true, false, not, cond, ◌||◌}
use mathlib.Core.List.{List, [], ◌∷◌}
use Prim.Native.Nat.{ℕ, zero, suc, ◌+◌, ◌*◌, ◌<◌}
use native.Mathlib.Omega.{arith}
use Rattle.std.proofs.lemmas.Bool.{true≢false, and_parts}
use lib.ListN.{get_or, replicate, length-replicate, get_or-replicate}
use Rattle.bits.proofs.Every.{every-at}
use Rattle.bits.proofs.Tabulate.{length-tabulate}
use Rattle.bits.specs.Tabulate.{tabulate, every}
use Rattle.checksum.specs.Signature.{hash_from, extended}
use Rattle.dsdl_text.specs.Class.{run}
use Rattle.dsdl_text.specs.Lines.{lines_after}
use Rattle.dsdl_line.specs.Line.{shape_of}
use Rattle.dsdl.specs.Form.{nested_types}
use Rattle.dsdl_given.specs.Given.{Definition, name_twice, form, is_service_of, nested_of}
use Rattle.dsdl_nesting.specs.Nesting.{is_given, every_name, every_one, find, chain_max, within, all_given}
use Rattle.dsdl_nesting.specs.Signature.{extended_by, signature_within, signature}
use Rattle.dsdl_nesting.specs.inside.Kept.{value_of, Kept}
use Rattle.dsdl_nesting.specs.inside.Sets.{has_index, row_holds}
use Rattle.dsdl_nesting.proofs.Rows.{by_row}
use Rattle.dsdl_nesting.proofs.Given.{every-same, every-definition, every-name, look_up, given-at, given-named}

-- level 0: one value for all
pub level-0 : {A : Type 0} (z v : A) (f : ℕ → A) (n : ℕ) → n < 9 → ((i : ℕ) → v ≡ f i) → Kept z f v n n (replicate 9 v)
level-0 z v f n h e =
    record { size = length-replicate 9 v; at = λ j l. get_or-replicate 9 j v z (omega arith) ∙ e j; behind = get_or-replicate 9 n v z h }

no-chain : (ds : List Definition) (e : Definition) → false ≡ within 0 ds e
unfolding within
no-chain ds e = refl

no-signature : (ds : List Definition) (e : Definition) → 0 ≡ signature_within 0 ds e
unfolding signature_within
no-signature ds e = refl

-- the chains from what is no definition have one member
abbrev pub above_zero : ℕ → Bool
above_zero zero = false
above_zero (suc k) = true

lone : (k : ℕ) (ds : List Definition) (x : List ℕ) → above_zero k ≡ within k ds (record { name = x; text = [] })
unfolding within every_name nested_types shape_of run lines_after
lone zero ds x = refl
lone (suc k) ds x = refl

extended-same : (f g : List ℕ → ℕ) (p : List ℕ → Bool) → ((x : List ℕ) → p x ≡ true → f x ≡ g x)
    → (xs : List (List ℕ)) (a : ℕ) → every_name p xs ≡ true → extended_by f a xs ≡ extended_by g a xs
unfolding extended_by every_name
extended-same f g p e [] a t = refl
extended-same f g p e (x ∷ xs) a t =
    let q = and_parts (p x) (every_name p xs) t in
    rw (e x q.0) (extended-same f g p e xs (extended a (g x)) q.1)

-- the signature is the same at every level that the chains fit
stays : (k : ℕ) (ds : List Definition) (e : Definition) → within k ds e ≡ true → signature_within k ds e ≡ signature_within (suc k) ds e
unfolding within signature_within
stays zero ds e t = absurd (true≢false (sym t))
stays (suc k) ds e t =
    extended-same (λ (x : List ℕ). signature_within k ds (find ds x)) (λ (x : List ℕ). signature_within (suc k) ds (find ds x)) (λ (x : List ℕ). within k ds (find ds x))
    (λ x q. stays k ds (find ds x) q) (nested_of e) (hash_from 0 (form e)) t

module _ (d : ℕ → Definition) (n : ℕ) (h : n < 9) where
  abbrev ds : List Definition
  ds = tabulate d 0 n

  -- a test that is kept for each definition, of all of them
  pub all-kept : (p : Definition → Bool) (other : Bool) (vs : List Bool) → Kept false (λ (i : ℕ). p (d i)) other n n vs
      → every (λ (i : ℕ). get_or vs i false) 0 n ≡ every_one p ds
  all-kept p other vs k =
      every-same (λ (i : ℕ). get_or vs i false) (λ (i : ℕ). p (d i)) n 0 (λ i l m. k.at i (omega arith)) ∙ every-definition p d n 0

  -- what one level says of the next, of signatures: those that are worked out are kept
  abbrev pub Extended : List ℕ → List Bool → List ℕ → List ℕ → Type 0
  Extended hs ms vs rs = Kept 0 (λ (i : ℕ). cond (get_or ms i false) (get_or vs i 0) (extended_by (value_of 0 vs ds) (get_or hs i 0) (nested_of (d i)))) 0 n n rs

  next-signatures : (k : ℕ) (other : Bool) (hs : List ℕ) (ms : List Bool) (vs rs : List ℕ) → all_given ds ≡ true → ((i : ℕ) → i < n → get_or hs i 0 ≡ hash_from 0 (form (d i)))
      → Kept false (λ (i : ℕ). within k ds (d i)) other n n ms → Kept 0 (λ (i : ℕ). signature_within k ds (d i)) 0 n n vs → Extended hs ms vs rs
      → Kept 0 (λ (i : ℕ). signature_within (suc k) ds (d i)) 0 n n rs
  unfolding signature_within
  next-signatures k other hs ms vs rs t e w v r = record { size = r.size; behind = r.behind; at = λ i m. r.at i m ∙ go i m (get_or ms i false) refl } where
    found : (x : List ℕ) → is_given ds x ≡ true → value_of 0 vs ds x ≡ signature_within k ds (find ds x)
    found x g = look_up 0 vs d (signature_within k ds) x n v.at (λ q. absurd (given-named ds x g q))

    given : (i : ℕ) → i < n → every_name (is_given ds) (nested_of (d i)) ≡ true
    given i m =
        every-at (λ (j : ℕ). every_name (is_given ds) (nested_of (d j))) n 0 (every-definition (λ (f : Definition). every_name (is_given ds) (nested_of f)) d n 0 ∙ t) i
        (omega arith) (omega arith)

    go : (i : ℕ) → i < n → (b : Bool) → get_or ms i false ≡ b
        → cond b (get_or vs i 0) (extended_by (value_of 0 vs ds) (get_or hs i 0) (nested_of (d i))) ≡ signature_within (suc k) ds (d i)
    go i m true q = v.at i m ∙ stays k ds (d i) (sym (w.at i m) ∙ q)
    go i m false q =
        ap (λ (a : ℕ). extended_by (value_of 0 vs ds) a (nested_of (d i))) (e i m)
        ∙ extended-same (value_of 0 vs ds) (λ (x : List ℕ). signature_within k ds (find ds x)) (is_given ds) found (nested_of (d i)) (hash_from 0 (form (d i))) (given i m)

  -- by the rows of nested types
  module _ (sets : List Bool) (rows : (k j : ℕ) → k < n → j < 9 → get_or sets (k * 9 + j) false ≡ has_index ds j (nested_of (d k))) where
    abbrev pub Next : List Bool → List Bool → Type 0
    Next vs rs = Kept false (row_holds sets vs) true n n rs

    by-sets : (vs : List Bool) (i : ℕ) → i < n → row_holds sets vs i ≡ every_name (value_of false vs ds) (nested_of (d i))
    by-sets vs i m =
        every-same (λ (j : ℕ). not (get_or sets (i * 9 + j) false) || get_or vs j false) (λ (j : ℕ). not (has_index ds j (nested_of (d i))) || get_or vs j false) 9 0
        (λ j l q. ap (λ (b : Bool). not b || get_or vs j false) (rows i j m (omega arith)))
        ∙ by_row ds (omega (arith, length-tabulate d 0 n)) (λ (j : ℕ). get_or vs j false) (nested_of (d i))

    pub all-messages : (ms vs : List Bool) → name_twice ds ≡ false → Kept false (λ (i : ℕ). not (is_service_of (d i))) false n n ms → Next ms vs
        → every (λ (i : ℕ). get_or vs i false) 0 n ≡ all_given ds
    all-messages ms vs t k l =
        all-kept (λ (e : Definition). every_name (is_given ds) (nested_of e)) true vs
        (record {
          size = l.size;
          behind = l.behind;
          at = λ i m. l.at i m ∙ (by-sets ms i m ∙ every-name (value_of false ms ds) (is_given ds) (λ x. given-at ms d x n h k t) (nested_of (d i)));
        })

    next_level : (k : ℕ) (vs rs : List Bool) → Kept false (λ (i : ℕ). within k ds (d i)) (above_zero k) n n vs → Next vs rs
        → Kept false (λ (i : ℕ). within (suc k) ds (d i)) true n n rs
    unfolding within
    next_level k vs rs v r =
        record {
          size = r.size;
          behind = r.behind;
          at = λ i m. r.at i m ∙ (by-sets vs i m ∙ every-name (value_of false vs ds) (λ (x : List ℕ). within k ds (find ds x)) found (nested_of (d i)));
        } where
          found : (x : List ℕ) → value_of false vs ds x ≡ within k ds (find ds x)
          found x = look_up false vs d (within k ds) x n v.at (λ e. v.behind ∙ lone k ds x)

    no-chains : Kept false (λ (i : ℕ). within 0 ds (d i)) false n n (replicate 9 false)
    no-chains = level-0 false false (λ (i : ℕ). within 0 ds (d i)) n h (λ i. no-chain ds (d i))

    module _ (a b c : List Bool) (p : Next (replicate 9 false) a) (q : Next a b) (r : Next b c) where
      one : Kept false (λ (i : ℕ). within 1 ds (d i)) true n n a
      one = next_level 0 (replicate 9 false) a no-chains p

      two : Kept false (λ (i : ℕ). within 2 ds (d i)) true n n b
      two = next_level 1 a b one q

      three : Kept false (λ (i : ℕ). within 3 ds (d i)) true n n c
      three = next_level 2 b c two r

      pub four : (e : List Bool) → Next c e → Kept false (λ (i : ℕ). within chain_max ds (d i)) true n n e
      four e s = next_level 3 c e three s

      pub four-signatures : (hs e f g k : List ℕ) → all_given ds ≡ true → ((i : ℕ) → i < n → get_or hs i 0 ≡ hash_from 0 (form (d i)))
          → Extended hs (replicate 9 false) (replicate 9 0) e → Extended hs a e f → Extended hs b f g → Extended hs c g k
          → (i : ℕ) → i < n → get_or k i 0 ≡ signature ds (d i)
      four-signatures hs e f g k t u l m o s =
          let zeros = level-0 0 0 (λ (i : ℕ). signature_within 0 ds (d i)) n h (λ i. no-signature ds (d i)) in
          let first = next-signatures 0 false hs (replicate 9 false) (replicate 9 0) e t u no-chains zeros l in
          let second = next-signatures 1 true hs a e f t u one first m in
          let third = next-signatures 2 true hs b f g t u two second o in
          (next-signatures 3 true hs c g k t u three third s).at
