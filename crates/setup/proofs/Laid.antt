-- The layout while it is written: zeros at first, then one subscription after the other.
use mathlib.Core.Path.{◌≡◌, refl, sym, ap, ap₂, ◌∙◌}
use mathlib.Core.List.{List, [], ◌∷◌, ◌++◌, append_assoc, append-nil}
use Prim.Native.Nat.{ℕ, ◌+◌, ◌*◌, ◌-◌, ◌/◌, ◌≤◌, ◌<◌}
use native.Mathlib.Nat.{zero-add}
use native.Mathlib.Omega.{arith}
use lib.ListN.{length, drop, set, replicate, length-append, length-replicate, replicate-append-replicate}
use lib.Seq.{drop_at}
use Rattle.rules.specs.Limits.{sessions_max, subscriptions_max, subscription_record}
use Rattle.bits.proofs.Little.{length-le_bytes}
use Rattle.bits.proofs.Splice.{splice-middle}
use Rattle.bits.specs.Little.{le_bytes}
use Rattle.bits.specs.Part.{splice}
use Rattle.rules.specs.Setup.{Subscription, Setup}
use Rattle.setup.specs.Setup.{record_at, given, signatures, keys, filled, state_of}
use Rattle.setup.specs.inside.Record.{written}
use Rattle.subscriptions.specs.inside.Subscription.{with_subscription}
use Rattle.bits.proofs.Tabulate.{tab-append, length-tabulate}
use Rattle.bits.specs.Tabulate.{tabulate}
use Rattle.state.specs.Layout.{size, signatures_at, free_at, subscription_keys_at, stream_keys_at}

-- ── lists that are filled up with zeros ──

pub zeros : (a b n : ℕ) → n ≡ a + b → (t : List ℕ) → replicate n 0 ++ t ≡ replicate a 0 ++ (replicate b 0 ++ t)
zeros a b n e t =
    ap (λ (k : ℕ). replicate k 0 ++ t) e ∙ ap (λ (l : List ℕ). l ++ t) (sym (replicate-append-replicate a b 0)) ∙ append_assoc (replicate a 0) (replicate b 0) t

pub length-filled : (n : ℕ) (xs : List ℕ) → length xs ≤ n → length (filled n xs) ≡ n
length-filled n xs h = length-append xs (replicate (n - length xs) 0) ∙ omega (arith, length-replicate {A = ℕ} (n - length xs) 0)

-- a store after what is there
fill_more : (pre xs ys post : List ℕ) (n at : ℕ) → length pre + length xs ≡ at → length xs + length ys ≤ n
    → splice (pre ++ (filled n xs ++ post)) at ys ≡ pre ++ (filled n (xs ++ ys) ++ post)
fill_more pre xs ys post n at e h =
    let l : n - length xs ≡ length ys + (n - length (xs ++ ys)) = omega (arith, length-append xs ys) in
    let zs : List ℕ = replicate (n - length (xs ++ ys)) 0 in
    let cut : pre ++ (filled n xs ++ post) ≡ (pre ++ xs) ++ (replicate (length ys) 0 ++ (zs ++ post)) =
    ap (λ (x : List ℕ). pre ++ x) (append_assoc xs (replicate (n - length xs) 0) post ∙ ap (λ (x : List ℕ). xs ++ x) (zeros (length ys) (n - length (xs ++ ys)) (n - length xs) l post))
    ∙ sym (append_assoc pre xs (replicate (length ys) 0 ++ (zs ++ post))) in
    ap (λ (x : List ℕ). splice x at ys) cut
    ∙ splice-middle (pre ++ xs) (replicate (length ys) 0) (zs ++ post) at (length-append pre xs ∙ e) ys (sym (length-replicate (length ys) 0))
    ∙ simp append_assoc

-- ── the layout ──

-- the sizes of its parts: what is unused, signatures, times, kinds and types, and all that follows
abbrev pub unused : ℕ
unused = signatures_at - 2

abbrev pub signatures_size : ℕ
signatures_size = subscriptions_max * 8

abbrev pub times_size : ℕ
times_size = sessions_max * 8

abbrev pub keys_size : ℕ
keys_size = subscriptions_max * 4

abbrev pub places_size : ℕ
places_size = size - stream_keys_at

-- the times, and all blocks free
abbrev pub between : List ℕ
between = replicate times_size 0 ++ replicate 8 255

-- with these bytes of signatures and of kinds and types, and the bytes past it
unfoldable pub laid : ℕ → ℕ → List ℕ → List ℕ → List ℕ → List ℕ
laid own n ss ks rest = own ∷ n ∷ (replicate unused 0 ++ (filled signatures_size ss ++ (between ++ (filled keys_size ks ++ (replicate places_size 0 ++ rest)))))

-- what comes before the signatures, before the keys, and before the places
abbrev pub head : ℕ → ℕ → List ℕ
head own n = own ∷ n ∷ replicate unused 0

abbrev pub to_keys : ℕ → ℕ → List ℕ → List ℕ
to_keys own n ss = head own n ++ (filled signatures_size ss ++ between)

abbrev pub to_places : ℕ → ℕ → List ℕ → List ℕ → List ℕ
to_places own n ss ks = to_keys own n ss ++ filled keys_size ks

module _ (own n : ℕ) (ss ks rest : List ℕ) where
  pub at-signatures : laid own n ss ks rest ≡ head own n ++ (filled signatures_size ss ++ (between ++ (filled keys_size ks ++ (replicate places_size 0 ++ rest))))
  unfolding laid
  at-signatures = refl

  pub at-keys : laid own n ss ks rest ≡ to_keys own n ss ++ (filled keys_size ks ++ (replicate places_size 0 ++ rest))
  unfolding laid
  at-keys = ap (λ (x : List ℕ). head own n ++ x) (sym (append_assoc (filled signatures_size ss) (between) (filled keys_size ks ++ (replicate places_size 0 ++ rest))))

  pub at_places : laid own n ss ks rest ≡ to_places own n ss ks ++ (replicate places_size 0 ++ rest)
  at_places = at-keys ∙ sym (append_assoc (to_keys own n ss) (filled keys_size ks) (replicate places_size 0 ++ rest))

pub length-to_keys : (own n : ℕ) (ss : List ℕ) → length ss ≤ signatures_size → length (to_keys own n ss) ≡ subscription_keys_at
length-to_keys own n ss h = length-append (head own n) (filled signatures_size ss ++ between) ∙ omega (arith, length-append (filled signatures_size ss) (between), length-filled signatures_size ss h)

length-to_places : (own n : ℕ) (ss ks : List ℕ) → length ss ≤ signatures_size → length ks ≤ keys_size → length (to_places own n ss ks) ≡ stream_keys_at
length-to_places own n ss ks h k = length-append (to_keys own n ss) (filled keys_size ks) ∙ omega (arith, length-to_keys own n ss h, length-filled keys_size ks k)

-- ── one subscription more ──

more-signatures : (own n : ℕ) (ss ks rest ys : List ℕ) (at : ℕ) → signatures_at + length ss ≡ at → length ss + length ys ≤ signatures_size → splice (laid own n ss ks rest) at ys ≡ laid own n (ss ++ ys) ks rest
unfolding laid
more-signatures own n ss ks rest ys at e h = fill_more (head own n) ss ys (between ++ (filled keys_size ks ++ (replicate places_size 0 ++ rest))) signatures_size at e h

more-keys : (own n : ℕ) (ss ks rest ys : List ℕ) (at : ℕ) → length ss ≤ signatures_size → subscription_keys_at + length ks ≡ at → length ks + length ys ≤ keys_size
    → splice (laid own n ss ks rest) at ys ≡ laid own n ss (ks ++ ys) rest
more-keys own n ss ks rest ys at few e h =
    let l = length-to_keys own n ss few in
    ap (λ (x : List ℕ). splice x at ys) (at-keys own n ss ks rest)
    ∙ fill_more (to_keys own n ss) ks ys (replicate places_size 0 ++ rest) keys_size at (omega arith) h ∙ sym (at-keys own n ss (ks ++ ys) rest)

pub length-signatures : (xs : List Subscription) → length (signatures xs) ≡ length xs * 8
unfolding signatures
length-signatures [] = refl
length-signatures (a ∷ xs) = length-append (le_bytes 8 a.signature) (signatures xs) ∙ omega (arith, length-le_bytes 8 a.signature, length-signatures xs)

pub length-keys : (xs : List Subscription) → length (keys xs) ≡ length xs * 4
unfolding keys
length-keys [] = refl
length-keys (a ∷ xs) = let k = a.kind * 65536 + a.type in length-append (le_bytes 4 k) (keys xs) ∙ omega (arith, length-le_bytes 4 k, length-keys xs)

pub signatures-append : (xs ys : List Subscription) → signatures (xs ++ ys) ≡ signatures xs ++ signatures ys
unfolding signatures
signatures-append [] ys = refl
signatures-append (a ∷ xs) ys = rw (signatures-append xs ys, append_assoc)

pub keys-append : (xs ys : List Subscription) → keys (xs ++ ys) ≡ keys xs ++ keys ys
unfolding keys
keys-append [] ys = refl
keys-append (a ∷ xs) ys = rw (keys-append xs ys, append_assoc)

last-signature : (xs : List Subscription) (a : Subscription) → signatures xs ++ le_bytes 8 a.signature ≡ signatures (xs ++ (a ∷ []))
unfolding signatures
last-signature xs a = ap (λ (x : List ℕ). signatures xs ++ x) (sym (append-nil (le_bytes 8 a.signature))) ∙ sym (signatures-append xs (a ∷ []))

last-key : (xs : List Subscription) (a : Subscription) → keys xs ++ le_bytes 4 (a.kind * 65536 + a.type) ≡ keys (xs ++ (a ∷ []))
unfolding keys
last-key xs a = ap (λ (x : List ℕ). keys xs ++ x) (sym (append-nil (le_bytes 4 (a.kind * 65536 + a.type)))) ∙ sym (keys-append xs (a ∷ []))

-- with these subscriptions
abbrev pub laid_out : ℕ → ℕ → List Subscription → List ℕ → List ℕ
laid_out own n xs rest = laid own n (signatures xs) (keys xs) rest

laid_more : (own n : ℕ) (xs : List Subscription) (a : Subscription) (rest : List ℕ) (j : ℕ) → length xs ≡ j → j < subscriptions_max
    → written (laid_out own n xs rest) j a ≡ laid_out own n (xs ++ (a ∷ [])) rest
unfolding with_subscription
laid_more own n xs a rest j e h =
    let ls = length-signatures xs in
    let lk = length-keys xs in
    let s = le_bytes 8 a.signature in
    let k = le_bytes 4 (a.kind * 65536 + a.type) in
    let n₁ = length-le_bytes 8 a.signature in
    let n₂ = length-le_bytes 4 (a.kind * 65536 + a.type) in
    ap (λ (x : List ℕ). splice x (subscription_keys_at + j * 4) k) (more-signatures own n (signatures xs) (keys xs) rest s (signatures_at + j * 8) (omega arith) (omega arith))
    ∙ more-keys own n (signatures xs ++ s) (keys xs) rest k (subscription_keys_at + j * 4) (omega (arith, length-append (signatures xs) s)) (omega arith) (omega arith)
    ∙ ap₂ (λ (x y : List ℕ). laid own n x y rest) (last-signature xs a) (last-key xs a)

-- one turn of the loop
pub laid-turn : (own n : ℕ) (f : ℕ → Subscription) (rest : List ℕ) (j : ℕ) → j < subscriptions_max
    → written (laid_out own n (tabulate f 0 j) rest) j (f j) ≡ laid_out own n (tabulate f 0 (j + 1)) rest
unfolding tabulate
laid-turn own n f rest j h =
    laid_more own n (tabulate f 0 j) (f j) rest j (length-tabulate f 0 j) h
    ∙ ap (λ (x : List Subscription). laid_out own n x rest) (ap (λ (k : ℕ). tabulate f 0 j ++ (f k ∷ [])) (sym (zero-add j)) ∙ sym (tab-append f 0 j 1))

-- ── the first and the last ──

-- zeros with all blocks free, the own ID and the number of subscriptions
pub laid-first : (own n : ℕ) (rest : List ℕ) → set (set (splice (replicate size 0 ++ rest) free_at (le_bytes 8 18446744073709551615)) 0 own) 1 n ≡ laid_out own n [] rest
unfolding laid signatures keys le_bytes
laid-first own n rest =
    ap (λ (x : List ℕ). set (set x 0 own) 1 n)
    (ap (λ (x : List ℕ). splice x free_at (replicate 8 255)) (zeros free_at (size - free_at) size refl rest ∙ ap (λ (x : List ℕ). replicate free_at 0 ++ x) (zeros 8 (size - subscription_keys_at) (size - free_at) refl rest))
    ∙ splice-middle (replicate free_at 0) (replicate 8 0) (replicate (size - subscription_keys_at) 0 ++ rest) free_at refl (replicate 8 255) refl
    ∙ zeros signatures_at (free_at - signatures_at) free_at refl (replicate 8 255 ++ (replicate (size - subscription_keys_at) 0 ++ rest))
    ∙ ap (λ (x : List ℕ). replicate signatures_at 0 ++ x) (zeros signatures_size times_size (free_at - signatures_at) refl (replicate 8 255 ++ (replicate (size - subscription_keys_at) 0 ++ rest))
    ∙ ap (λ (x : List ℕ). replicate signatures_size 0 ++ x) (ap (λ (x : List ℕ). replicate times_size 0 ++ (replicate 8 255 ++ x)) (zeros keys_size places_size (size - subscription_keys_at) refl rest)
    ∙ sym (append_assoc (replicate times_size 0) (replicate 8 255) (replicate keys_size 0 ++ (replicate places_size 0 ++ rest))))))

-- the state of a setup
pub laid-last : (u : Setup) (rest : List ℕ) → state_of u ++ rest ≡ laid_out u.own (length u.subscriptions) u.subscriptions rest
unfolding laid state_of
laid-last u rest = simp append_assoc

-- the state of the setup that records give
pub given-laid : (own : ℕ) (r rest : List ℕ) (n : ℕ) → n ≡ length r / subscription_record → laid_out own n (tabulate (record_at r) 0 n) rest ≡ state_of (given own r) ++ rest
unfolding given
given-laid own r rest n e =
    let l : n ≡ length (tabulate (record_at r) 0 (length r / subscription_record)) = e ∙ sym (length-tabulate (record_at r) 0 (length r / subscription_record)) in
    ap (λ (k : ℕ). laid_out own n (tabulate (record_at r) 0 k) rest) e ∙ ap (λ (k : ℕ). laid_out own k (tabulate (record_at r) 0 (length r / subscription_record)) rest) l
    ∙ sym (laid-last (given own r) rest)

-- ── lengths ──

module _ (own n : ℕ) (xs : List Subscription) (few : length xs ≤ subscriptions_max) where
  pub places-at : length (to_places own n (signatures xs) (keys xs)) ≡ stream_keys_at
  places-at = length-to_places own n (signatures xs) (keys xs) (omega (arith, length-signatures xs)) (omega (arith, length-keys xs))

  whole : length (to_places own n (signatures xs) (keys xs) ++ replicate places_size 0) ≡ size
  whole = length-append (to_places own n (signatures xs) (keys xs)) (replicate places_size 0) ∙ omega (arith, places-at, length-replicate {A = ℕ} places_size 0)

  split : (rest : List ℕ) → laid_out own n xs rest ≡ (to_places own n (signatures xs) (keys xs) ++ replicate places_size 0) ++ rest
  split rest =
      at_places own n (signatures xs) (keys xs) rest ∙ sym (append_assoc (to_places own n (signatures xs) (keys xs)) (replicate places_size 0) rest)

  -- the bytes past the layout
  pub past : (rest : List ℕ) → drop size (laid_out own n xs rest) ≡ rest
  past rest = ap (λ (x : List ℕ). drop size x) (split rest) ∙ drop_at (to_places own n (signatures xs) (keys xs) ++ replicate places_size 0) rest size whole

  pub length-laid : (rest : List ℕ) → length (laid_out own n xs rest) ≡ size + length rest
  length-laid rest = ap length (split rest) ∙ length-append (to_places own n (signatures xs) (keys xs) ++ replicate places_size 0) rest ∙ ap (λ (k : ℕ). k + length rest) whole
