-- One place relieved, as the code decides it.
use mathlib.Core.Path.{◌≡◌, refl, sym, ap, ap₂, subst, ◌∙◌}
use mathlib.Core.Bool.{Bool, true, false, not, ◌&&◌}
use mathlib.Core.List.{List, [], ◌∷◌, map}
use mathlib.Core.Option.{Option, none, some}
use Prim.Native.Nat.{ℕ, suc, ◌≤◌, ◌<◌}
use native.Mathlib.Omega.{arith}
use borrow.Author.Tests.{eqb-true, eqb-false, eq-eqb, ne_eqb, lt-ltb, le-ltb}
use lib.Count.{count_trailing_zeros}
use lib.Dec.{eqb, ltb}
use lib.ListN.{length, set}
use lib.Seq.{set-get_or}
use Rattle.bits.specs.Order.{Octets}
use Rattle.frame.specs.Key.{stream_of_key}
use Rattle.rules.specs.Blocks.{stale, relieved, free_block, cleared}
use Rattle.rules.specs.Limits.{sessions_max, blocks_max}
use Rattle.rules.specs.Session.{Session, waiting, closed, next}
use Rattle.rules.specs.Sound.{stream_fits}
use Rattle.rules.specs.Table.{Place, empty, held, Places}
use Rattle.rules.specs.Tests.{pick, is_empty, is_none}
use Rattle.session.specs.declared.Session as coded
use Rattle.session.specs.inside.Session.{idle}
use Rattle.sessions.specs.inside.Place.{coded_at, Waits}
use Rattle.sessions.specs.inside.Scan.{old_at, stale_at}
use Rattle.state.proofs.Free.{free-lowest}
use Rattle.state.proofs.Good.{same-table}
use Rattle.state.proofs.Held.{place-held, stream-fits, session-fits, hand-length}
use Rattle.state.proofs.Table.{place_of}
use Rattle.state.specs.Layout.{free_of, key_at, count_at, blocks_of, gathered_at, session_at, place_at, places_of}
use Rattle.state.specs.Place.{written}
use Rattle.state.specs.inside.Ready.{Ready}

some-hand : (g : List ℕ) → not (is_empty g) ≡ ltb 0 (length g)
some-hand [] = refl
some-hand (x ∷ g) = sym (lt-ltb 0 (suc (length g)) (omega arith))

-- ── the test ──

module _ (m : List ℕ) (t i : ℕ) (b : Bool) (e : b ≡ old_at m t i) where
  pub stale-yes : b ≡ true → (n : ℕ) → n ≡ count_at m i → ltb 0 n ≡ stale_at m t i
  stale-yes y n q = ap (ltb 0) q ∙ ap (λ (x : Bool). x && ltb 0 (count_at m i)) (sym y ∙ e)

  pub stale-no : b ≡ false → false ≡ stale_at m t i
  stale-no n = ap (λ (x : Bool). x && ltb 0 (count_at m i)) (sym n ∙ e)

module _ (m : List ℕ) (r : Ready m) (bytes : Octets m) (t i : ℕ) (in_table : i < sessions_max) where
  -- a stale place is held
  pub stale-key : stale_at m t i ≡ true → key_at m i ≡ 0 → ⊥
  stale-key e z =
      let k : eqb (key_at m i) 0 ≡ true = eq-eqb (key_at m i) 0 z in
      let q : false ≡ true = rw k at e in
      let y : ◌≡◌ {A = ℕ} 0 1 = cc in omega arith

  module _ (some : key_at m i ≡ 0 → ⊥) where
    stale-is : stale t (session_at m i) ≡ stale_at m t i
    unfolding session_at
    stale-is =
        let k : eqb (key_at m i) 0 ≡ false = ne_eqb (key_at m i) 0 some in
        rw (k, some-hand (gathered_at m i), hand-length m r bytes i in_table some)

    closed_is : (c : coded.Session) → c ≡ coded_at m i → waiting (next c.expected) c.time c.follows ≡ closed (session_at m i) (session_at m i).since
    unfolding session_at coded_at
    closed_is c e = ap (λ (x : coded.Session). waiting (next x.expected) x.time x.follows) e

    pub expected-of : (c : coded.Session) → c ≡ coded_at m i → c.expected < 32
    unfolding coded_at session_at
    expected-of c e = omega (arith, ap (λ (x : coded.Session). x.expected) e, (session-fits m r bytes i in_table some).expected)

    pub follows_of : (c : coded.Session) → c ≡ coded_at m i → c.follows < 3
    unfolding coded_at session_at
    follows_of c e = omega (arith, ap (λ (x : coded.Session). x.follows) e, (session-fits m r bytes i in_table some).follows)

    pub waits-for : (k : ℕ) (c d : coded.Session) → k ≡ key_at m i → c ≡ coded_at m i → d ≡ idle (next c.expected) c.time c.follows → Waits m i k d
    waits-for k c d ek ec ed =
        subst (λ (x : coded.Session). Waits m i k x) (sym ed)
        (record {
          ready = r;
          place = in_table;
          stream = ap (λ (x : ℕ). stream_fits (stream_of_key x)) ek ∙ stream-fits m r bytes i in_table some;
          expected = omega arith;
          follows = follows_of c ec;
          toggle = refl;
          len = refl;
        })

    pub relieved-yes : stale_at m t i ≡ true → (k : ℕ) (c d : coded.Session) → k ≡ key_at m i → c ≡ coded_at m i → d ≡ idle (next c.expected) c.time c.follows
        → held (stream_of_key k) (waiting d.expected d.time d.follows) [] ≡ relieved t (place_at m i)
    relieved-yes y k c d ek ec ed =
        ap₂ (λ (x : ℕ) (z : coded.Session). held (stream_of_key x) (waiting z.expected z.time z.follows) []) ek ed
        ∙ ap (λ (s : Session). held (stream_of_key (key_at m i)) s []) (closed_is c ec)
        ∙ ap (λ (b : Bool). pick b (held (stream_of_key (key_at m i)) (closed (session_at m i) (session_at m i).since) []) (held (stream_of_key (key_at m i)) (session_at m i) (blocks_of m i))) (sym (stale-is ∙ y))
        ∙ ap (relieved t) (sym (place-held m r bytes i in_table some))

    kept-held : stale_at m t i ≡ false → relieved t (place_at m i) ≡ place_at m i
    kept-held n =
        ap (relieved t) (place-held m r bytes i in_table some)
        ∙ ap (λ (b : Bool). pick b (held (stream_of_key (key_at m i)) (closed (session_at m i) (session_at m i).since) []) (held (stream_of_key (key_at m i)) (session_at m i) (blocks_of m i))) (stale-is ∙ n)
        ∙ sym (place-held m r bytes i in_table some)

  kept-empty : key_at m i ≡ 0 → relieved t (place_at m i) ≡ place_at m i
  unfolding place_at
  kept-empty z = rw (eq-eqb (key_at m i) 0 z)

  pub relieved-no : stale_at m t i ≡ false → m ≡ written m (set (places_of m) i (relieved t (place_at m i)))
  relieved-no n =
      sym (ap (λ (p : Place). written m (set (places_of m) i p)) (go (eqb (key_at m i) 0) refl ∙ sym (place_of m i in_table))
      ∙ ap (written m) (set-get_or (places_of m) i empty) ∙ same-table m r bytes)
    where
      go : (b : Bool) → eqb (key_at m i) 0 ≡ b → relieved t (place_at m i) ≡ place_at m i
      go true e = kept-empty (eqb-true (key_at m i) 0 e)
      go false e = kept-held (eqb-false (key_at m i) 0 e) n

-- ── a block, once old sessions are emptied ──

lowest-is : (m : List ℕ) (r : Ready m) (x : ℕ) → x ≡ count_trailing_zeros blocks_max (free_of m) → not (is_none (free_block (places_of m))) ≡ ltb x blocks_max
lowest-is m r x e =
    ap (λ (o : Option ℕ). not (is_none o)) (free-lowest (places_of m))
    ∙ ap (λ (y : ℕ). not (is_none (pick (ltb y blocks_max) (some y) none))) (ap (count_trailing_zeros blocks_max) (sym r.free) ∙ sym e) ∙ go (ltb x blocks_max)
  where
    go : (b : Bool) → not (is_none (pick b (some x) none)) ≡ b
    go true = refl
    go false = refl

module _ (m : List ℕ) (r : Ready m) (bytes : Octets m) (t x : ℕ) (e : x ≡ count_trailing_zeros blocks_max (free_of m)) where
  none_is : (b : Bool) → ltb x blocks_max ≡ b → is_none (free_block (places_of m)) ≡ not b
  none_is b q = flip (is_none (free_block (places_of m))) b (lowest-is m r x e ∙ q)
    where
      flip : (a b : Bool) → not a ≡ b → a ≡ not b
      flip true b k = ap not k
      flip false b k = ap not k

  pub provided : x < blocks_max → (m ≡ written m (cleared t (places_of m))) × (true ≡ not (is_none (free_block (cleared t (places_of m)))))
  unfolding cleared
  provided h =
      let n = none_is true (lt-ltb x blocks_max h) in
      rw n (sym (same-table m r bytes), sym (ap not n))

  pub emptied : blocks_max ≤ x → (m' : List ℕ) → Ready m' → m' ≡ written m (map (relieved t) (places_of m)) → places_of m' ≡ map (relieved t) (places_of m)
      → (y : ℕ) → y ≡ count_trailing_zeros blocks_max (free_of m') → (m' ≡ written m (cleared t (places_of m))) × (ltb y blocks_max ≡ not (is_none (free_block (cleared t (places_of m)))))
  unfolding cleared
  emptied h m' r' w v y q =
      let n = none_is false (le-ltb x blocks_max h) in
      rw n (w, sym (lowest-is m' r' y q) ∙ ap (λ (p : Places). not (is_none (free_block p))) v)
