-- The state of a setup that is accepted: it is read back, nothing is held, and it has no fault.
use mathlib.Core.Path.{◌≡◌, refl, sym, ap, subst, ◌∙◌}
use mathlib.Core.Bool.{true, ◌&&◌}
use mathlib.Core.List.{List, [], ◌∷◌, ◌++◌, append_assoc, append-nil}
use Prim.Native.Nat.{ℕ, suc, ◌+◌, ◌*◌, ◌-◌, ◌/◌, ◌%◌, ◌^◌, ◌≤◌, ◌<◌}
use native.Mathlib.Nat.{zero-add}
use native.Mathlib.Omega.{arith}
use borrow.Author.Tests.{leb-true, le-leb}
use lib.Dec.{ltb, leb, eqb}
use lib.ListN.{length, get_or, replicate, length-append, length-replicate}
use Rattle.rules.specs.Limits.{sessions_max, subscriptions_max, subscription_record}
use Rattle.bits.proofs.Little.{le-le_bytes, le-lt, length-le_bytes}
use Rattle.bits.proofs.Octets.{octets-span}
use Rattle.bits.proofs.Splice.{length-span, span-middle}
use Rattle.bits.specs.Little.{le, le_bytes}
use Rattle.bits.specs.Order.{Octets}
use Rattle.bits.specs.Part.{span}
use Rattle.rules.specs.Setup.{Subscription, Setup, type_fits, unlike, all_fit, acceptable}
use Rattle.rules.specs.Sound.{sound}
use Rattle.rules.specs.Table.{empty, begun}
use Rattle.subscriptions.proofs.Fit.{in-range}
use Rattle.setup.proofs.Laid.{signatures_size, times_size, between, keys_size, places_size, zeros, length-filled, laid, head, to_keys, to_places, at-signatures, at-keys, at_places, length-to_keys, length-signatures, length-keys, signatures-append, keys-append, laid_out, laid-last, given-laid, places-at, length-laid}
use Rattle.setup.specs.Laws.{Fresh}
use Rattle.setup.specs.Setup.{record_at, given, accepted, signatures, keys, filled, state_of}
use Rattle.state.proofs.Bools.{and_left, and_right}
use Rattle.bits.proofs.Tabulate.{tab-append, length-tabulate, tab-same}
use Rattle.bits.proofs.Every.{every_true}
use Rattle.bits.specs.Tabulate.{tabulate, every}
use Rattle.state.specs.Layout.{size, subscription_key_at, subscription_at, setup_of, free_of, key_at, place_at, places_of, signatures_at, free_at, subscription_keys_at, stream_keys_at}
use Rattle.state.specs.Place.{free_set}
use Rattle.blocks.specs.Set.{set_of}
use Rattle.rules.specs.Blocks.{used, times}
use Rattle.state.specs.Sound.{raw_fits, sound_state}

-- ── what is accepted ──

fit_at : (xs : List Subscription) (a : Subscription) (ys : List Subscription) → all_fit (xs ++ (a ∷ ys)) ≡ true → type_fits a.kind a.type ≡ true
fit_at [] a ys e = and_left (type_fits a.kind a.type) (unlike a ys && all_fit ys) e
fit_at (x ∷ xs) a ys e =
    fit_at xs a ys (and_right (unlike x (xs ++ (a ∷ ys))) (all_fit (xs ++ (a ∷ ys))) (and_right (type_fits x.kind x.type) (unlike x (xs ++ (a ∷ ys)) && all_fit (xs ++ (a ∷ ys))) e))

module _ (u : Setup) (ok : acceptable u ≡ true) where
  behind-own : (leb (length u.subscriptions) subscriptions_max && all_fit u.subscriptions) ≡ true
  unfolding acceptable
  behind-own = and_right (ltb u.own 128) (leb (length u.subscriptions) subscriptions_max && all_fit u.subscriptions) ok

  few : length u.subscriptions ≤ subscriptions_max
  few = leb-true (length u.subscriptions) subscriptions_max (and_left (leb (length u.subscriptions) subscriptions_max) (all_fit u.subscriptions) behind-own)

  fitting : all_fit u.subscriptions ≡ true
  fitting = and_right (leb (length u.subscriptions) subscriptions_max) (all_fit u.subscriptions) behind-own

  pub state-long : length (state_of u) ≡ size
  state-long =
      let s = u.subscriptions in
      ap length (sym (append-nil (state_of u)) ∙ laid-last u []) ∙ length-laid u.own (length s) s few []

-- ── subscriptions are read back ──

in-filled : (pre a b c post : List ℕ) (n at w : ℕ) → length pre + length a ≡ at → length b ≡ w → span (pre ++ (filled n (a ++ (b ++ c)) ++ post)) at w ≡ b
in-filled pre a b c post n at w e h =
    let zs : List ℕ = replicate (n - length (a ++ (b ++ c))) 0 in
    let cut : pre ++ (filled n (a ++ (b ++ c)) ++ post) ≡ (pre ++ a) ++ (b ++ (c ++ (zs ++ post))) = simp append_assoc in
    ap (λ (x : List ℕ). span x at w) cut ∙ span-middle (pre ++ a) b (c ++ (zs ++ post)) at (length-append pre a ∙ e) w h

module _ (own n : ℕ) (f : ℕ → Subscription) (past : List ℕ) (at_most : n ≤ subscriptions_max) (j : ℕ) (inside : j < n) where
  around : tabulate f 0 n ≡ tabulate f 0 j ++ (f j ∷ tabulate f (suc j) (n - suc j))
  unfolding tabulate
  around =
      let e : n ≡ j + suc (n - suc j) = omega arith in
      ap (tabulate f 0) e ∙ tab-append f 0 j (suc (n - suc j)) ∙ ap (λ (k : ℕ). tabulate f 0 j ++ tabulate f k (suc (n - suc j))) (zero-add j)

  signature-span : span (laid_out own n (tabulate f 0 n) past) (signatures_at + j * 8) 8 ≡ le_bytes 8 (f j).signature
  unfolding signatures
  signature-span =
      let xs = tabulate f 0 n in
      let ys = tabulate f 0 j in
      let l : length (signatures ys) ≡ j * 8 = length-signatures ys ∙ ap (λ (k : ℕ). k * 8) (length-tabulate f 0 j) in
      let post : List ℕ = between ++ (filled keys_size (keys xs) ++ (replicate places_size 0 ++ past)) in
      ap (λ (x : List ℕ). span x (signatures_at + j * 8) 8) (at-signatures own n (signatures xs) (keys xs) past)
      ∙ ap (λ (x : List ℕ). span (head own n ++ (filled signatures_size x ++ post)) (signatures_at + j * 8) 8) (ap signatures around ∙ signatures-append ys (f j ∷ tabulate f (suc j) (n - suc j)))
      ∙ in-filled (head own n) (signatures ys) (le_bytes 8 (f j).signature) (signatures (tabulate f (suc j) (n - suc j))) post signatures_size (signatures_at + j * 8) 8 (omega arith) (length-le_bytes 8 (f j).signature)

  key-span : span (laid_out own n (tabulate f 0 n) past) (subscription_keys_at + j * 4) 4 ≡ le_bytes 4 ((f j).kind * 65536 + (f j).type)
  unfolding keys
  key-span =
      let xs = tabulate f 0 n in
      let ys = tabulate f 0 j in
      let k = (f j).kind * 65536 + (f j).type in
      let l : length (keys ys) ≡ j * 4 = length-keys ys ∙ ap (λ (k : ℕ). k * 4) (length-tabulate f 0 j) in
      let few : length (signatures xs) ≤ signatures_size = omega (arith, length-signatures xs, length-tabulate f 0 n) in
      let post : List ℕ = replicate places_size 0 ++ past in
      ap (λ (x : List ℕ). span x (subscription_keys_at + j * 4) 4) (at-keys own n (signatures xs) (keys xs) past)
      ∙ ap (λ (x : List ℕ). span (to_keys own n (signatures xs) ++ (filled keys_size x ++ post)) (subscription_keys_at + j * 4) 4) (ap keys around ∙ keys-append ys (f j ∷ tabulate f (suc j) (n - suc j)))
      ∙ in-filled (to_keys own n (signatures xs)) (keys ys) (le_bytes 4 k) (keys (tabulate f (suc j) (n - suc j))) post keys_size (subscription_keys_at + j * 4) 4
      (omega (arith, length-to_keys own n (signatures xs) few)) (length-le_bytes 4 k)

  subscription-back : type_fits (f j).kind (f j).type ≡ true → (f j).signature < 256 ^ 8 → subscription_at (laid_out own n (tabulate f 0 n) past) j ≡ f j
  unfolding subscription_at subscription_key_at
  subscription-back e h =
      let r = in-range (f j).kind (f j).type e in
      let k = (f j).kind * 65536 + (f j).type in
      let m = laid_out own n (tabulate f 0 n) past in
      let q : le (span m (subscription_keys_at + j * 4) 4) ≡ k = ap le key-span ∙ le-le_bytes 4 k (omega arith) in
      let e₁ : le (span m (subscription_keys_at + j * 4) 4) / 65536 ≡ (f j).kind = omega arith in
      let e₂ : le (span m (subscription_keys_at + j * 4) 4) % 65536 ≡ (f j).type = omega arith in
      let e₃ : le (span m (signatures_at + j * 8) 8) ≡ (f j).signature = ap le signature-span ∙ le-le_bytes 8 (f j).signature h in
      λ i. record { kind = e₁ i; type = e₂ i; signature = e₃ i }

-- ── no place is held ──

module _ (own n : ℕ) (xs : List Subscription) (past : List ℕ) (at_most : length xs ≤ subscriptions_max) where
  no_key : (i : ℕ) → i < sessions_max → key_at (laid_out own n xs past) i ≡ 0
  unfolding key_at le
  no_key i h =
      let p = to_places own n (signatures xs) (keys xs) in
      let zs : List ℕ = replicate (i * 4) 0 in
      let ws : List ℕ = replicate (places_size - 4 - i * 4) 0 ++ past in
      let a : places_size ≡ i * 4 + (places_size - i * 4) = omega arith in
      let b : places_size - i * 4 ≡ 4 + (places_size - 4 - i * 4) = omega arith in
      let cut : replicate places_size 0 ++ past ≡ zs ++ (replicate 4 0 ++ ws) =
      zeros (i * 4) (places_size - i * 4) places_size a past ∙ ap (λ (x : List ℕ). zs ++ x) (zeros 4 (places_size - 4 - i * 4) (places_size - i * 4) b past) in
      let l : length (p ++ zs) ≡ stream_keys_at + i * 4 = length-append p zs ∙ omega (arith, places-at own n xs at_most, length-replicate {A = ℕ} (i * 4) 0) in
      ap (λ (x : List ℕ). le (span x (stream_keys_at + i * 4) 4))
      (at_places own n (signatures xs) (keys xs) past ∙ ap (λ (x : List ℕ). p ++ x) cut ∙ sym (append_assoc p zs (replicate 4 0 ++ ws)))
      ∙ ap le (span-middle (p ++ zs) (replicate 4 0) ws (stream_keys_at + i * 4) l 4 refl)

  -- all blocks are free
  free-span : span (laid_out own n xs past) free_at 8 ≡ replicate 8 255
  free-span =
      let pre = head own n ++ (filled signatures_size (signatures xs) ++ replicate times_size 0) in
      let post : List ℕ = filled keys_size (keys xs) ++ (replicate places_size 0 ++ past) in
      let cut : laid_out own n xs past ≡ pre ++ (replicate 8 255 ++ post) = at-signatures own n (signatures xs) (keys xs) past ∙ simp append_assoc in
      let l : length pre ≡ free_at =
      length-append (head own n) (filled signatures_size (signatures xs) ++ replicate times_size 0)
      ∙ omega (arith, length-append (filled signatures_size (signatures xs)) (replicate times_size 0), length-filled signatures_size (signatures xs) (omega (arith, length-signatures xs))) in
      ap (λ (x : List ℕ). span x free_at 8) cut ∙ span-middle pre (replicate 8 255) post free_at l 8 refl

  free_all : free_of (laid_out own n xs past) ≡ 18446744073709551615
  unfolding free_of le
  free_all = ap le free-span

  free : (i : ℕ) → i < sessions_max → place_at (laid_out own n xs past) i ≡ empty
  unfolding place_at
  free i h = rw (no_key i h)

  raw : (i : ℕ) → i < sessions_max → raw_fits (laid_out own n xs past) i ≡ true
  unfolding raw_fits
  raw i h = rw (no_key i h)

  none-held : places_of (laid_out own n xs past) ≡ begun
  unfolding places_of tabulate
  none-held = tab-same (place_at (laid_out own n xs past)) (λ l. empty) sessions_max 0 (λ l h k. free l (omega arith))

  all_raw : every (raw_fits (laid_out own n xs past)) 0 sessions_max ≡ true
  all_raw = every_true (raw_fits (laid_out own n xs past)) sessions_max 0 (λ l h k. raw l (omega arith))

-- ── the whole ──

none-used : free_set begun ≡ 18446744073709551615
unfolding free_set used times set_of
none-used = refl

own_at : (own n : ℕ) (ss ks rest : List ℕ) → get_or (laid own n ss ks rest) 0 0 ≡ own
unfolding laid
own_at own n ss ks rest = refl

number_at : (own n : ℕ) (ss ks rest : List ℕ) → get_or (laid own n ss ks rest) 1 0 ≡ n
unfolding laid
number_at own n ss ks rest = refl

module _ (own : ℕ) (r past : List ℕ) (taken : accepted own r ≡ true) (bytes : Octets r) where
  abbrev count : ℕ
  count = length r / subscription_record

  abbrev after : List ℕ
  after = laid_out own count (tabulate (record_at r) 0 count) past

  ok : acceptable (given own r) ≡ true
  unfolding accepted
  ok = and_right (eqb (length r % subscription_record) 0) (acceptable (given own r)) taken

  listed : (given own r).subscriptions ≡ tabulate (record_at r) 0 count
  unfolding given
  listed = refl

  at-most : count ≤ subscriptions_max
  at-most = omega (arith, few (given own r) ok, ap length listed, length-tabulate (record_at r) 0 count)

  signature-lt : (j : ℕ) → j < count → (record_at r j).signature < 256 ^ 8
  unfolding record_at
  signature-lt j h =
      let n : length (span r (j * subscription_record + 5) 8) ≡ 8 = length-span r (j * subscription_record + 5) 8 (omega arith) in
      rw n at (le-lt (span r (j * subscription_record + 5) 8) (octets-span r (j * subscription_record + 5) 8 bytes))

  fits-at : (j : ℕ) → j < count → type_fits (record_at r j).kind (record_at r j).type ≡ true
  fits-at j h =
      fit_at (tabulate (record_at r) 0 j) (record_at r j) (tabulate (record_at r) (suc j) (count - suc j))
      (ap all_fit (sym (around own count (record_at r) past at-most j h)) ∙ ap all_fit (sym listed) ∙ fitting (given own r) ok)

  read_back : setup_of after ≡ given own r
  unfolding setup_of given
  read_back =
      let o : get_or after 0 0 ≡ own = own_at own count (signatures (tabulate (record_at r) 0 count)) (keys (tabulate (record_at r) 0 count)) past in
      let n : get_or after 1 0 ≡ count = number_at own count (signatures (tabulate (record_at r) 0 count)) (keys (tabulate (record_at r) 0 count)) past in
      let s : tabulate (subscription_at after) 0 (get_or after 1 0) ≡ tabulate (record_at r) 0 count =
      ap (tabulate (subscription_at after) 0) n
      ∙ tab-same (subscription_at after) (record_at r) count 0
      (λ l h k. subscription-back own count (record_at r) past at-most l (omega arith) (fits-at l (omega arith)) (signature-lt l (omega arith))) in
      λ i. record { own = o i; subscriptions = s i }

  few-listed : length (tabulate (record_at r) 0 count) ≤ subscriptions_max
  few-listed = omega (arith, length-tabulate (record_at r) 0 count, at-most)

  held_none : places_of after ≡ begun
  held_none = none-held own count (tabulate (record_at r) 0 count) past few-listed

  long : leb size (length after) ≡ true
  long = le-leb size (length after) (omega (arith, length-laid own count (tabulate (record_at r) 0 count) few-listed past))

  no-fault : sound_state after ≡ true
  unfolding sound_state sound used
  no-fault =
      rw (
        long,
        read_back,
        ok,
        all_raw own count (tabulate (record_at r) 0 count) past few-listed,
        free_all own count (tabulate (record_at r) 0 count) past few-listed,
        held_none,
        none-used,
      )

  pub fresh : Fresh (given own r) (state_of (given own r) ++ past)
  fresh = subst (Fresh (given own r)) (given-laid own r past count refl) (record { setup = read_back; places = held_none; sound = no-fault })
