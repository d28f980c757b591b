-- RULES 3.1, 3.2, 3.4 and 3.6: what a receiver is set up with, the setups that are refused (13), and the signature of a frame.
use Rattle.std.specs.Prelude.{Bool, true, false, not, ◌&&◌, List, [], ◌∷◌, ℕ, ltb, leb, eqb, length}
use Rattle.std.proofs.Math.Option.{Option, none, some}
use Rattle.rules.specs.Frame.{Stream, stream_of}
use Rattle.rules.specs.Limits.{subscriptions_max}
use Rattle.rules.specs.Tests.{pick}

-- RULES 3.2: the kind is 0 for a message, 1 for a service; request and response share one subscription
pub record Subscription : Type 0 where
  pub kind : ℕ
  pub type : ℕ
  pub signature : ℕ

-- RULES 3.1: an own node ID of 0 means none yet
pub record Setup : Type 0 where
  pub own : ℕ
  pub subscriptions : List Subscription

-- ── setups that are accepted (RULES 3.4) ──

-- message types are below 65536, service types below 256, and there is no third kind
abbrev pub type_fits : ℕ → ℕ → Bool
type_fits kind type = pick (eqb kind 0) (ltb type 65536) (pick (eqb kind 1) (ltb type 256) false)

abbrev pub alike : Subscription → Subscription → Bool
alike a b = eqb a.kind b.kind && eqb a.type b.type

abbrev pub unlike : Subscription → List Subscription → Bool
unlike a [] = true
unlike a (b ∷ bs) = not (alike a b) && unlike a bs

-- each is in range, and no kind and type comes twice, under whatever signatures
abbrev pub all_fit : List Subscription → Bool
all_fit [] = true
all_fit (a ∷ more) = type_fits a.kind a.type && (unlike a more && all_fit more)

unfoldable pub acceptable : Setup → Bool
acceptable u = ltb u.own 128 && (leb (length u.subscriptions) subscriptions_max && all_fit u.subscriptions)

-- ── the signature that a frame's transfer is checked under (RULES 3.6) ──

unfoldable pub subscribed : ℕ → ℕ → List Subscription → Option ℕ
subscribed kind type [] = none
subscribed kind type (a ∷ more) = pick (eqb a.kind kind && eqb a.type type) (some a.signature) (subscribed kind type more)

-- the kind of subscription that a stream asks for
abbrev pub kind_of : Stream → ℕ
kind_of d = pick (eqb d.transfer_type 0) 0 1

abbrev pub signature_for : Setup → ℕ → Option ℕ
signature_for u id = subscribed (kind_of (stream_of id)) (stream_of id).type u.subscriptions
