-- The cases of the definitions, as the code comes to them.
use mathlib.Core.Path.{◌≡◌, refl, sym, ap, ◌∙◌}
use mathlib.Core.Bool.{Bool, true, false, not, ◌&&◌, beq}
use mathlib.Core.List.{List, []}
use mathlib.Core.Option.{none, some}
use Rattle.std.specs.Prelude.{Ok, Err}
use Prim.Native.Nat.{ℕ, ◌+◌, ◌-◌, ◌≤◌, ◌<◌}
use native.Mathlib.Omega.{arith}
use borrow.Author.Tests.{eq-eqb, ne_eqb, lt-ltb, le-ltb, le-leb, lt-leb, leb-true, leb-false, eqb-true}
use lib.Dec.{leb, eqb}
use lib.ListN.{length, drop, length-drop}
use lib.Seq.{take_all}
use Rattle.bits.specs.Part.{span}
use Rattle.checksum.specs.Crc.{crc_over}
use Rattle.checksum.specs.Crc16.{ccitt, checksum}
use Rattle.rules.specs.Limits.{unused_age}
use Rattle.rules.specs.Tests.{pick, same_bool}
use Rattle.judge_rules.specs.inside.Brief.{Brief, rests, front, starts_in, grows_to, goes_on}
use Rattle.judge_rules.specs.Good.{may_follow}
use Rattle.judge_rules.specs.Verdict.{Next, goes, continues}
use Rattle.judge_stream.specs.inside.Kept.{before_of, brief_in, stream_of, seen_of, Step, resting, Opens, Grows, Follows}
use Rattle.judge_stream.specs.declared.Kept.{Kept}
use Rattle.judge_stream.specs.declared.Seen.{Seen}

-- ── the transfer ID ──

pub gap : (since time : ℕ) → since < time → leb unused_age (time - since) ≡ leb (since + unused_age) time
gap since time h = go (leb unused_age (time - since)) refl
  where
    go : (b : Bool) → leb unused_age (time - since) ≡ b → b ≡ leb (since + unused_age) time
    go true e = sym (le-leb (since + unused_age) time (let k = leb-true unused_age (time - since) e in omega arith))
    go false e = sym (lt-leb (since + unused_age) time (let k = leb-false unused_age (time - since) e in omega arith))

pub any-id : (k : Kept) (v : Seen) → v.head.transfer_type ≡ 2 → true ≡ may_follow (stream_of v) (some (before_of k)) v.head.transfer v.time
any-id k v e = rw (eq-eqb v.head.transfer_type 2 e)

-- ── a frame that goes on ──

module _ (k : Kept) (v : Seen) where
  abbrev onward : Bool
  onward = not v.head.start && continues k.id (before_of k) k.toggle (seen_of v [])

  beq_same : (a b : Bool) → beq a b ≡ same_bool a b
  beq_same true true = refl
  beq_same true false = refl
  beq_same false true = refl
  beq_same false false = refl

  pub other-id : v.head.start ≡ false → (k.id ≡ v.id → ⊥) → false ≡ onward
  unfolding seen_of
  other-id s i = rw (s, ne_eqb k.id v.id i)

  pub other-transfer : v.head.start ≡ false → k.id ≡ v.id → (k.transfer ≡ v.head.transfer → ⊥) → false ≡ onward
  unfolding seen_of
  other-transfer s i t = rw (s, eq-eqb k.id v.id i, ne_eqb k.transfer v.head.transfer t)

  pub by-toggle : v.head.start ≡ false → k.id ≡ v.id → k.transfer ≡ v.head.transfer → beq k.toggle v.head.toggle ≡ onward
  unfolding seen_of
  by-toggle s i t = rw (s, eq-eqb k.id v.id i, eq-eqb k.transfer v.head.transfer t) (beq_same k.toggle v.head.toggle)

  pub same_id : true ≡ onward → k.id ≡ v.id
  unfolding seen_of
  same_id g = eqb-true k.id v.id (by v.head.start (eqb k.id v.id) _ g)
    where
      by : (s a b : Bool) → true ≡ (not s && (a && b)) → a ≡ true
      by true a b e = cc
      by false true b e = refl
      by false false b e = cc

-- ── a start ──

module _ (signature : ℕ) (v : Seen) (p : List ℕ) where
  pub whole : v.head.end ≡ true → v.head.transfer < 32 → Opens signature v p (resting v.id v.time v.head.transfer)
  unfolding brief_in seen_of
  whole l t = record { brief = rw l; keeps = (refl, record { transfer = t; count = omega arith }) }

module _ (signature : ℕ) (v : Seen) (p : List ℕ) (full : length p ≡ 7) where
  behind-two : span p 2 (length p - 2) ≡ drop 2 p
  behind-two = take_all (length p - 2) (drop 2 p) (simp length-drop (omega arith))

  pub opens : v.head.end ≡ false → v.head.transfer < 32 → (register : ℕ) → register ≡ checksum signature (span p 2 (length p - 2))
      → Opens signature v p
      (record { id = v.id; since = v.time; transfer = v.head.transfer; toggle = true; count = length p; sum = front p; register = register })
  unfolding brief_in seen_of
  opens l t register e =
      record {
        brief = rw (ne_eqb (length p) 0 (λ z. omega arith), l, e, behind-two);
        keeps = (refl, record { transfer = t; count = omega arith });
      }

-- ── a transfer that grows ──

module _ (k : Kept) (n register : ℕ) (last : Bool) where
  pub too_long : 514 < n → Grows k n register last (Err (record { 0 = 11 }))
  unfolding grows_to
  too_long h = record { next = rw (lt-ltb 514 n h); keeps = tt }

  module _ (h : n ≤ 514) where
    pub too_short : last ≡ true → k.sum ≡ register → n ≤ 9 → Grows k n register last (Err (record { 0 = 24 }))
    unfolding grows_to
    too_short l e m = record { next = rw (le-ltb 514 n h, l, eq-eqb k.sum register e, le-leb n 9 m); keeps = tt }

    pub ended : last ≡ true → k.sum ≡ register → 9 < n → k.transfer < 32 → Grows k n register last (Ok (resting k.id k.since k.transfer))
    unfolding grows_to brief_in
    ended l e m t =
        record {
          next = rw (le-ltb 514 n h, l, eq-eqb k.sum register e, lt-leb n 9 m);
          keeps = (refl, record { transfer = t; count = omega arith });
        }

    pub differs : last ≡ true → (k.sum ≡ register → ⊥) → Grows k n register last (Err (record { 0 = 12 }))
    unfolding grows_to
    differs l e = record { next = rw (le-ltb 514 n h, l, ne_eqb k.sum register e); keeps = tt }

    pub goes-on : last ≡ false → k.transfer < 32 → 0 < n
        → Grows k n register last
        (Ok (record { id = k.id; since = k.since; transfer = k.transfer; toggle = not k.toggle; count = n; sum = k.sum; register = register }))
    unfolding grows_to brief_in
    goes-on l t z =
        record {
          next = rw (le-ltb 514 n h, l, ne_eqb n 0 (λ e. omega arith));
          keeps = (refl, record { transfer = t; count = omega arith });
        }

-- ── one frame more ──

module _ (x y : Next Brief) where
  both : (s c : Bool) → true ≡ (not s && c) → x ≡ pick s y (pick c x y)
  both true c e = cc
  both false true e = refl
  both false false e = cc

  not-both : (s c : Bool) → false ≡ (not s && c) → y ≡ pick s y (pick c x y)
  not-both true c e = refl
  not-both false true e = cc
  not-both false false e = refl

neither : (s : Bool) (x : Next Brief) → x ≡ pick s x x
neither true x = refl
neither false x = refl

module _ (signature : ℕ) (v : Seen) (p : List ℕ) where
  pub begun : v.head.start ≡ true → (k : Kept) → Opens signature v p k → Follows signature (rests none) v p (Ok k)
  unfolding goes_on starts_in seen_of
  begun s k o = record { next = ap goes o.brief ∙ rw s; keeps = o.keeps }

  pub not-begun : v.head.start ≡ false → Follows signature (rests none) v p (Err (record { 0 = 24 }))
  unfolding goes_on starts_in seen_of
  not-begun s = record { next = rw s; keeps = tt }

  module _ (k : Kept) where
    abbrev follows : Bool
    follows = may_follow (stream_of v) (some (before_of k)) v.head.transfer v.time

    pub restarted : k.count ≡ 0 → true ≡ follows → (r : Step) → Follows signature (rests none) v p r → Follows signature (brief_in k) v p r
    unfolding goes_on starts_in brief_in seen_of
    restarted z f r o = record { next = o.next ∙ rw (eq-eqb k.count 0 z, sym f); keeps = o.keeps }

    pub not-next : k.count ≡ 0 → false ≡ follows → Follows signature (brief_in k) v p (Err (record { 0 = 24 }))
    unfolding goes_on starts_in brief_in seen_of
    not-next z f = record { next = rw (eq-eqb k.count 0 z, sym f) (neither v.head.start _); keeps = tt }

    pub grown : (k.count ≡ 0 → ⊥) → true ≡ onward k v → (register : ℕ) → register ≡ crc_over ccitt k.register p → (r : Step)
        → Grows k (k.count + length p) register v.head.end r → Follows signature (brief_in k) v p r
    unfolding goes_on brief_in seen_of
    grown z g register e r o =
        record {
          next = o.next ∙ (rw (e, ne_eqb k.count 0 z) (both _ _ v.head.start _ g));
          keeps = rw (same_id k v g) at o.keeps;
        }

    pub not-grown : (k.count ≡ 0 → ⊥) → false ≡ onward k v → Follows signature (brief_in k) v p (Err (record { 0 = 24 }))
    unfolding goes_on brief_in seen_of
    not-grown z g = record { next = rw (ne_eqb k.count 0 z) (not-both _ _ v.head.start _ g); keeps = tt }
