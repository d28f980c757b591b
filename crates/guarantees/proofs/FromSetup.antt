-- The state that setup leaves, and what calls make of it.
use mathlib.Core.Path.{◌≡◌, refl, sym, ap₂, subst, ◌∙◌}
use mathlib.Core.Bool.{Bool, true, false}
use mathlib.Core.List.{List, [], ◌∷◌, ◌++◌, map}
use Prim.Native.Nat.{ℕ, zero, suc, ◌-◌, ◌%◌, ◌<◌}
use native.Mathlib.Omega.{arith}
use borrow.Author.Tests.{ltb-true, leb-true}
use lib.Dec.{ltb, leb, eqb}
use lib.ListN.{length, drop, replicate}
use Rattle.std.specs.declared.result.Result.TheVariants.{Ok, Err}
use Rattle.bits.proofs.Octets.{octets-append, octets-drop, octets-le_bytes}
use Rattle.bits.specs.Little.{le_bytes}
use Rattle.bits.specs.Order.{Octets}
use Rattle.guarantees.specs.Condition3.{Lent}
use Rattle.guarantees.specs.FromSetup.{SetUp, Reached, set_up, called, set_up_bytes, FromSetup}
use Rattle.guarantees.specs.Run.{Call, receptions, AllTyped, readings, reading_of}
use Rattle.guarantees.proofs.Condition3.{lent-stays, view}
use Rattle.guarantees.proofs.Run.{run-law}
use Rattle.rules.proofs.Bounds.{block-bounds}
use Rattle.rules.proofs.Lasting.{lasting}
use Rattle.rules.proofs.Lift.{View, lifted, lifted-burst}
use Rattle.rules.specs.Answer as rules
use Rattle.rules.specs.BlockBounds.{modest}
use Rattle.rules.specs.Condition3.{All}
use Rattle.rules.specs.Reception.{run}
use Rattle.rules.specs.Setup.{Subscription, Setup, all_fit, acceptable}
use Rattle.rules.specs.Table.{Places, begun}
use Rattle.rules.specs.Tests.{pick}
use Rattle.setup.proofs.Fresh.{fresh}
use Rattle.setup.specs.Setup.{given, accepted, signatures, keys, filled, state_of, Result, returned, after_setup}
use Rattle.answers.specs.Reception.{told}
use Rattle.answers.specs.declared.Answer.TheVariants.{NoBlock}
use Rattle.answers.specs.declared.SetupError.TheVariants.{Unacceptable, Short}
use Rattle.state.proofs.Bools.{and_left, and_right}
use Rattle.state.specs.Layout.{size, stream_keys_at, places_of}

-- ── bytes ──

pub octets-zeros : (n : ℕ) → Octets (replicate n 0)
octets-zeros zero = tt
octets-zeros (suc n) = (omega arith, octets-zeros n)

octets-free : Octets (replicate 8 255)
octets-free = (omega arith, (omega arith, (omega arith, (omega arith, (omega arith, (omega arith, (omega arith, (omega arith, tt))))))))

octets-signatures : (l : List Subscription) → Octets (signatures l)
unfolding signatures
octets-signatures [] = tt
octets-signatures (a ∷ l) = octets-append (le_bytes 8 a.signature) (signatures l) (octets-le_bytes 8 a.signature) (octets-signatures l)

octets-keys : (l : List Subscription) → Octets (keys l)
unfolding keys
octets-keys [] = tt
octets-keys (a ∷ l) = octets-append (le_bytes 4 _) (keys l) (octets-le_bytes 4 _) (octets-keys l)

octets-filled : (n : ℕ) (xs rest : List ℕ) → Octets xs → Octets rest → Octets (filled n xs ++ rest)
octets-filled n xs rest h k = octets-append (filled n xs) rest (octets-append xs (replicate (n - length xs) 0) h (octets-zeros (n - length xs))) k

pub octets-state : (u : Setup) → u.own < 256 → length u.subscriptions < 256 → Octets (state_of u)
unfolding state_of
octets-state u a b =
    let s = u.subscriptions in
    let n = size - stream_keys_at in
    let ks : List ℕ = filled 256 (keys s) ++ replicate n 0 in
    let gap : List ℕ = replicate 256 0 ++ (replicate 8 255 ++ ks) in
    let ss : List ℕ = filled 512 (signatures s) ++ gap in (
      a,
      (
        b,
        octets-append (replicate 6 0) ss (octets-zeros 6)
            (octets-filled 512 (signatures s) gap (octets-signatures s)
            (octets-append (replicate 256 0) (replicate 8 255 ++ ks) (octets-zeros 256)
            (octets-append (replicate 8 255) ks octets-free (octets-filled 256 (keys s) (replicate n 0) (octets-keys s) (octets-zeros n))))),
      ),
    )

-- ── a setup call ──

-- what succeeded was accepted
module _ (m : List ℕ) (own : ℕ) (r : List ℕ) where
  abbrev laid : List ℕ
  laid = state_of (given own r) ++ drop size m

  abbrev answered : Bool → Bool → Result
  answered a b = pick a (returned (Err Short) m) (pick b (returned (Ok tt) laid) (returned (Err Unacceptable) m))

  succeeds : (a b : Bool) → accepted own r ≡ b → (answered a b).answer ≡ Ok tt → (accepted own r ≡ true) × ((answered a b).state ≡ laid)
  succeeds true b k z = let q : ◌≡◌ {A = ℕ} 0 1 = cc in absurd (omega arith)
  succeeds false true k z = (k, refl)
  succeeds false false k z = let q : ◌≡◌ {A = ℕ} 0 1 = cc in absurd (omega arith)

  succeeded : (after_setup m own r).answer ≡ Ok tt → (accepted own r ≡ true) × ((after_setup m own r).state ≡ laid)
  unfolding after_setup
  succeeded e = succeeds (ltb (length m) size) (accepted own r) refl e

  fits : accepted own r ≡ true → acceptable (given own r) ≡ true
  unfolding accepted
  fits e = and_right (eqb (length r % 13) 0) (acceptable (given own r)) e

  own-small : acceptable (given own r) ≡ true → (given own r).own < 256
  unfolding acceptable
  own-small e =
      let q = ltb-true (given own r).own 128 (and_left (ltb (given own r).own 128) _ e) in
      omega arith

  few : acceptable (given own r) ≡ true → length (given own r).subscriptions < 256
  unfolding acceptable
  few e =
      let n = length (given own r).subscriptions in
      let q = leb-true n 64 (and_left (leb n 64) (all_fit (given own r).subscriptions) (and_right (ltb (given own r).own 128) _ e)) in
      omega arith

  begins : SetUp m own r → Lent (given own r) (after_setup m own r).state × (places_of (after_setup m own r).state ≡ begun)
  begins h =
      let k = succeeded h.done in
      let g = fresh own r (drop size m) k.0 h.records in
      let ok = fits k.0 in
      rw k.1 (
        record {
          setup = g.setup;
          sound = g.sound;
          bytes = octets-append (state_of (given own r)) (drop size m) (octets-state (given own r) (own-small ok) (few ok)) (octets-drop size m h.bytes);
        },
        g.places,
      )

-- ── the calls after it ──

reads : (m : List ℕ) (own : ℕ) (r : List ℕ) → SetUp m own r → (cs : List Call) → AllTyped cs
    → readings (after_setup m own r).state cs ≡ map reading_of (run (given own r) begun (receptions cs))
reads m own r h cs typed =
    let b = begins m own r h in
    (run-law (after_setup m own r).state cs b.0.sound b.0.bytes typed).read
    ∙ ap₂ (λ (u : Setup) (ps : Places). map reading_of (run u ps (receptions cs))) b.0.setup b.1

not-told : (a : rules.Answer) → (a ≡ rules.no_block → ⊥) → told a ≡ NoBlock → ⊥
not-told rules.taken n e = let z : ◌≡◌ {A = ℕ} 0 1 = cc in omega arith
not-told (rules.handed p d priority t) n e = let z : ◌≡◌ {A = ℕ} 0 1 = cc in omega arith
not-told (rules.refused k) n e = let z : ◌≡◌ {A = ℕ} 0 1 = cc in omega arith
not-told rules.full n e = let z : ◌≡◌ {A = ℕ} 0 1 = cc in omega arith
not-told (rules.passed r) n e = let z : ◌≡◌ {A = ℕ} 0 1 = cc in omega arith
not-told rules.long n e = let z : ◌≡◌ {A = ℕ} 0 1 = cc in omega arith
not-told rules.no_block n e = n refl
not-told rules.differs n e = let z : ◌≡◌ {A = ℕ} 0 1 = cc in omega arith

none_told : (l : List rules.Answer) → All (λ a. a ≡ rules.no_block → ⊥) l → All (λ r. r.answer ≡ NoBlock → ⊥) (map reading_of l)
none_told [] h = tt
none_told (a ∷ l) h = (not-told a h.0, none_told l h.1)

served : (m : List ℕ) (own : ℕ) (r : List ℕ) → SetUp m own r → (cs : List Call) → AllTyped cs → modest 2 (given own r) begun (receptions cs) ≡ true
    → All (λ x. x.answer ≡ NoBlock → ⊥) (readings (after_setup m own r).state cs)
served m own r h cs typed small =
    subst (All (λ x. x.answer ≡ NoBlock → ⊥)) (sym (reads m own r h cs typed))
    (none_told (run (given own r) begun (receptions cs)) (block-bounds.ever 2 (omega arith) (given own r) begun (receptions cs) lasting.setup refl small))

lasts : (u : Setup) (m : List ℕ) → Reached u m → Lent u m
lasts u m (set_up n own r h e) = subst (λ w. Lent w (after_setup n own r).state) e (begins n own r h).0
lasts u m (called {m = n} h c typed) = lent-stays u n c (lasts u n h) typed

reached-view : (u : Setup) → View u (set_up_bytes u)
unfolding view
reached-view u =
    record {
      places = places_of;
      numbers = (view u).numbers;
      past = λ m h. (view u).past m (lasts u m h);
      stays = λ m c h t. called h c t;
      says = λ m c h t. (view u).says m c (lasts u m h) t;
      moves = λ m c h t. (view u).moves m c (lasts u m h) t;
    }

pub from-setup : FromSetup
from-setup =
    record {
      begins = begins;
      reads = reads;
      served = served;
      lasts = lasts;
      condition3 = lifted set_up_bytes reached-view;
      bursts = lifted-burst set_up_bytes reached-view;
    }
