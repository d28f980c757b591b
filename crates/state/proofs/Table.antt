-- The whole table in the bytes: its stores place by place, written and read back, written over another, and with one place changed.
use mathlib.Core.Path.{◌≡◌, refl, sym, ap, ap₂, subst, ◌∙◌}
use mathlib.Core.Logic.{◌⊎◌, inl, inr}
use mathlib.Core.Bool.{Bool, true, false, ◌&&◌}
use mathlib.Core.List.{List, [], ◌∷◌}
use Prim.Native.Nat.{ℕ, zero, suc, ◌+◌, ◌≤◌, ◌<◌}
use native.Mathlib.Nat.{zero-add}
use native.Mathlib.Omega.{arith}
use borrow.Author.Tests.{eqb-true, eqb-false}
use lib.Dec.{eqb}
use lib.ListN.{length, get_or, set, length-set}
use lib.Seq.{get_or-set_same, get_or-set_other}
use Rattle.bits.proofs.Little.{length-le_bytes}
use Rattle.bits.proofs.Tabulate.{length-tabulate, tab-at}
use Rattle.bits.specs.Little.{le_bytes}
use Rattle.bits.specs.Part.{span}
use Rattle.bits.specs.Tabulate.{tabulate, every}
use Rattle.blocks.proofs.Stores.{Reaches, Touched, Within, There, Clear, Apart, Covered, Disjoint, same-stores, kept-stores, stored, agree-stores, there-apart, within-append, there-append, there-left, there-right, clear-append, apart-append, touched-left, touched-right, covered-append, covered-there, disjoint-append, there-all}
use Rattle.blocks.specs.Stores.{Store, store_all}
use Rattle.rules.proofs.Shares.{times-append}
use Rattle.rules.specs.Blocks.{blocks_in, used, times}
use Rattle.rules.specs.Frame.{Stream}
use Rattle.rules.specs.Limits.{sessions_max}
use Rattle.rules.specs.Session.{Session}
use Rattle.rules.specs.Table.{Place, empty, held, Places}
use Rattle.rules.specs.Tests.{pick}
use Rattle.frame.specs.Key.{key_of}
use Rattle.state.specs.Layout.{size, free_at, place_at, places_of}
use Rattle.state.specs.Place.{free_set, free_store, block_stores, place_stores, table_stores, written}
use Rattle.state.specs.Sound.{raw_fits}
use Rattle.state.proofs.Chunks.{Once}
use Rattle.state.proofs.Places.{free-clear, within-place, apart-places, disjoint-place, resized}
use Rattle.state.proofs.View.{Storable, length-control, place-back, raw-back}

-- ── places of a table ──

abbrev pub AllStorable : Places → Type 0
AllStorable [] = Unit {0}
AllStorable (p ∷ ps) = Storable p × AllStorable ps

pub within-table : (n j : ℕ) (ps : Places) → size ≤ n → j + length ps ≤ sessions_max → AllStorable ps → Within n (table_stores j ps)
unfolding table_stores
within-table n j [] h l w = tt
within-table n j (p ∷ ps) h l w =
    within-append n (place_stores j p) (table_stores (suc j) ps) (within-place n j p h (omega arith) w.0) (within-table n (suc j) ps h (omega arith) w.1)

-- what is clear of every place is clear of the table
pub clear-table : (a n j : ℕ) (ps : Places) → j + length ps ≤ sessions_max → AllStorable ps
    → ((i : ℕ) (p : Place) → i < sessions_max → Storable p → Clear a n (place_stores i p)) → Clear a n (table_stores j ps)
unfolding table_stores
clear-table a n j [] l w c = tt
clear-table a n j (p ∷ ps) l w c =
    clear-append a n (place_stores j p) (table_stores (suc j) ps) (c j p (omega arith) w.0) (clear-table a n (suc j) ps (omega arith) w.1 c)

apart-table : (i j : ℕ) (p : Place) (ps : Places) → i < j → j + length ps ≤ sessions_max → Storable p → AllStorable ps
    → ((b : ℕ) → (times b (blocks_in p) ≡ 0 → ⊥) → times b (used ps) ≡ 0) → i < sessions_max → Apart (place_stores i p) (table_stores j ps)
unfolding table_stores used
apart-table i j p [] h l v w d k = none (place_stores i p)
  where
    none : (us : List Store) → Apart us []
    none [] = tt
    none (u ∷ us) = (tt, none us)
apart-table i j p (q ∷ ps) h l v w d k =
    apart-append (place_stores i p) (place_stores j q) (table_stores (suc j) ps)
    (apart-places i j k (omega arith) (λ e. omega (arith, e)) p q v w.0 (λ b t. omega (arith, d b t, times-append b (blocks_in q) (used ps))))
    (apart-table i (suc j) p ps (omega arith) (omega arith) v w.1 (λ b t. omega (arith, d b t, times-append b (blocks_in q) (used ps))) k)

pub once-of : (bs : List ℕ) → ((b : ℕ) → times b bs ≤ 1) → Once bs
unfolding times
once-of [] h = tt
once-of (b ∷ bs) h = (first (eqb b b) refl (h b), once-of bs (λ c. more c (eqb c b) (h c)))
  where
    first : (t : Bool) → eqb b b ≡ t → pick t (suc (times b bs)) (times b bs) ≤ 1 → times b bs ≡ 0
    first true e k = omega (arith, k)
    first false e k = absurd (eqb-false b b e refl)

    more : (c : ℕ) (t : Bool) → pick t (suc (times c bs)) (times c bs) ≤ 1 → times c bs ≤ 1
    more c true k = omega (arith, k)
    more c false k = k

-- no block is there twice: the stores do not meet
disjoint-table : (j : ℕ) (ps : Places) → j + length ps ≤ sessions_max → AllStorable ps → ((b : ℕ) → times b (used ps) ≤ 1) → Disjoint (table_stores j ps)
unfolding table_stores used
disjoint-table j [] l w o = tt
disjoint-table j (p ∷ ps) l w o =
    disjoint-append (place_stores j p) (table_stores (suc j) ps)
    (disjoint-place j (omega arith) p w.0 (once-of (blocks_in p) (λ b. omega (arith, o b, times-append b (blocks_in p) (used ps)))))
    (disjoint-table (suc j) ps (omega arith) w.1 (λ b. omega (arith, o b, times-append b (blocks_in p) (used ps))))
    (apart-table j (suc j) p ps (omega arith) (omega arith) w.0 w.1 (λ b t. omega (arith, o b, t, times-append b (blocks_in p) (used ps))) (omega arith))

-- ── place by place ──

shift : (j l : ℕ) → suc j + l ≡ j + suc l
shift j l = omega arith

there-from : (n : List ℕ) (j : ℕ) (ps : Places) → ((l : ℕ) → l < length ps → There n (place_stores (j + l) (get_or ps l empty))) → There n (table_stores j ps)
unfolding table_stores
there-from n j [] h = tt
there-from n j (p ∷ ps) h =
    let z : j + 0 ≡ j = omega arith in
    there-append n (place_stores j p) (table_stores (suc j) ps) (subst (λ (k : ℕ). There n (place_stores k p)) z (h 0 (omega arith)))
    (there-from n (suc j) ps (λ l k. subst (λ (x : ℕ). There n (place_stores x (get_or ps l empty))) (sym (shift j l)) (h (suc l) (omega arith))))

covered-from : (m : List ℕ) (us : List Store) (j : ℕ) (ps : Places) → ((l : ℕ) → l < length ps → Covered m us (place_stores (j + l) (get_or ps l empty))) → Covered m us (table_stores j ps)
unfolding table_stores
covered-from m us j [] h = tt
covered-from m us j (p ∷ ps) h =
    let z : j + 0 ≡ j = omega arith in
    covered-append m us (place_stores j p) (table_stores (suc j) ps) (subst (λ (k : ℕ). Covered m us (place_stores k p)) z (h 0 (omega arith)))
    (covered-from m us (suc j) ps (λ l k. subst (λ (x : ℕ). Covered m us (place_stores x (get_or ps l empty))) (sym (shift j l)) (h (suc l) (omega arith))))

touched-from : (j l : ℕ) (ps : Places) (x : ℕ) → l < length ps → Touched (place_stores (j + l) (get_or ps l empty)) x → Touched (table_stores j ps) x
unfolding table_stores
touched-from j l [] x h t = absurd (omega arith)
touched-from j zero (p ∷ ps) x h t =
    let z : j + 0 ≡ j = omega arith in
    touched-left (place_stores j p) (table_stores (suc j) ps) x (subst (λ (k : ℕ). Touched (place_stores k p) x) z t)
touched-from j (suc l) (p ∷ ps) x h t =
    touched-right (place_stores j p) (table_stores (suc j) ps) x
    (touched-from (suc j) l ps x (omega arith) (subst (λ (k : ℕ). Touched (place_stores k (get_or ps l empty)) x) (sym (shift j l)) t))

pub there-table : (n : List ℕ) (ps : Places) → ((l : ℕ) → l < length ps → There n (place_stores l (get_or ps l empty))) → There n (table_stores 0 ps)
there-table n ps h = there-from n 0 ps (λ l k. subst (λ (x : ℕ). There n (place_stores x (get_or ps l empty))) (sym (zero-add l)) (h l k))

covered-table : (m : List ℕ) (us : List Store) (ps : Places) → ((l : ℕ) → l < length ps → Covered m us (place_stores l (get_or ps l empty))) → Covered m us (table_stores 0 ps)
covered-table m us ps h = covered-from m us 0 ps (λ l k. subst (λ (x : ℕ). Covered m us (place_stores x (get_or ps l empty))) (sym (zero-add l)) (h l k))

touched-table : (l : ℕ) (ps : Places) (x : ℕ) → l < length ps → Touched (place_stores l (get_or ps l empty)) x → Touched (table_stores 0 ps) x
touched-table l ps x h t = touched-from 0 l ps x h (subst (λ (k : ℕ). Touched (place_stores k (get_or ps l empty)) x) (sym (zero-add l)) t)

covered-map : (m : List ℕ) (us ws vs : List Store) → ((x : ℕ) → Touched us x → Touched ws x) → Covered m us vs → Covered m ws vs
covered-map m us ws [] f c = tt
covered-map m us ws (v ∷ vs) f c = (go c.0, covered-map m us ws vs f c.1)
  where
    go : ((span m v.at (length v.bytes) ≡ v.bytes) ⊎ ((x : ℕ) → Reaches v x → Touched us x))
        → (span m v.at (length v.bytes) ≡ v.bytes) ⊎ ((x : ℕ) → Reaches v x → Touched ws x)
    go (inl e) = inl e
    go (inr r) = inr (λ x q. f x (r x q))

-- ── all places ──

-- a table that the layout can hold
pub record Table (ps : Places) : Type 0 where
  pub whole : length ps ≡ sessions_max
  pub storable : AllStorable ps
  pub once : (b : ℕ) → times b (used ps) ≤ 1

abbrev pub stores : Places → List Store
stores ps = free_store (free_set ps) ∷ table_stores 0 ps

pub within-stores : (m : List ℕ) (ps : Places) → size ≤ length m → Table ps → Within (length m) (stores ps)
within-stores m ps long t =
    (omega (arith, length-le_bytes 8 (free_set ps)), within-table (length m) 0 ps long (omega (arith, t.whole)) t.storable)

pub there-written : (m : List ℕ) (ps : Places) → size ≤ length m → Table ps → There (written m ps) (stores ps)
unfolding written
there-written m ps long t =
    let n = t.whole in
    there-all (stores ps) m (within-stores m ps long t) (
      resized free_at (table_stores 0 ps) (length-le_bytes 8 (free_set ps))
          (clear-table free_at 8 0 ps (omega arith) t.storable (λ i p h w. free-clear i h p w)),
      disjoint-table 0 ps (omega arith) t.storable t.once,
    )

-- what is there is the view
view-from : (n : List ℕ) (j : ℕ) (ps : Places) → size ≤ length n → j + length ps ≤ sessions_max → AllStorable ps → There n (table_stores j ps) → tabulate (place_at n) j (length ps) ≡ ps
unfolding table_stores tabulate
view-from n j [] long l w t = refl
view-from n j (p ∷ ps) long l w t =
    ap₂ (λ (x : Place) (xs : Places). x ∷ xs)
    (place-back n j long (omega arith) p w.0 (there-left n (place_stores j p) (table_stores (suc j) ps) t))
    (view-from n (suc j) ps long (omega arith) w.1 (there-right n (place_stores j p) (table_stores (suc j) ps) t))

pub view-there : (n : List ℕ) (ps : Places) → size ≤ length n → Table ps → There n (table_stores 0 ps) → places_of n ≡ ps
unfolding places_of
view-there n ps long t h = let e = t.whole in ap (tabulate (place_at n) 0) (sym e) ∙ view-from n 0 ps long (omega arith) t.storable h

raw-from : (n : List ℕ) (j : ℕ) (ps : Places) → size ≤ length n → j + length ps ≤ sessions_max → AllStorable ps → There n (table_stores j ps) → every (raw_fits n) j (length ps) ≡ true
unfolding table_stores every
raw-from n j [] long l w t = refl
raw-from n j (p ∷ ps) long l w t =
    ap₂ (λ (x y : Bool). x && y)
    (raw-back n j long (omega arith) p w.0 (there-left n (place_stores j p) (table_stores (suc j) ps) t))
    (raw-from n (suc j) ps long (omega arith) w.1 (there-right n (place_stores j p) (table_stores (suc j) ps) t))

pub raw-there : (n : List ℕ) (ps : Places) → size ≤ length n → Table ps → There n (table_stores 0 ps) → every (raw_fits n) 0 sessions_max ≡ true
raw-there n ps long t h = let e = t.whole in ap (every (raw_fits n) 0) (sym e) ∙ raw-from n 0 ps long (omega arith) t.storable h

-- ── one table over another ──

-- nothing of the first place's stores is left by the second's: they are in the bytes anyway, or the session has nothing in hand and another follows
pub data Settled (m : List ℕ) (l : ℕ) (p q : Place) : Type 0 where
  stays : There m (place_stores l p) → Settled m l p q
  idle : (d e : Stream) (s t : Session) (bs : List ℕ) → p ≡ held d s [] → q ≡ held e t bs → Settled m l p q

settled-covered : (m : List ℕ) (l : ℕ) (p q : Place) → Settled m l p q → Covered m (place_stores l q) (place_stores l p)
unfolding place_stores block_stores
settled-covered m l p q (stays t) = covered-there m (place_stores l q) (place_stores l p) t
settled-covered m l p q (idle d e s t bs a b) = rw (a, b) (covered)
  where
    covered : Covered m (place_stores l (held e t bs)) (place_stores l (held d s []))
    covered = (
      inr (λ x r. inl (r.0, omega (arith, r.1, length-le_bytes 4 (key_of d), length-le_bytes 4 (key_of e)))),
      (
        inr (λ x r. inr (inl (r.0, omega (arith, r.1, length-control s, length-control t)))),
        (
          inr (λ x r. inr (inr (inl (r.0, omega (arith, r.1, length-le_bytes 8 s.since, length-le_bytes 8 t.since))))),
          (inr (λ x r. absurd (omega (arith, r.0, r.1))), tt),
        ),
      ),
    )

pub written_over : (m : List ℕ) (ps qs : Places) → size ≤ length m → Table ps → Table qs
    → ((l : ℕ) → l < sessions_max → Settled m l (get_or ps l empty) (get_or qs l empty)) → written (written m ps) qs ≡ written m qs
unfolding written
written_over m ps qs long t u c =
    let n = t.whole in
    let k = u.whole in
    sym (same-stores (stores qs) m (store_all m (stores ps)) (within-stores m qs long u)
    (agree-stores (stores ps) (stores qs) m (within-stores m ps long t) (
      inr (λ x r. inl (r.0, omega (arith, r.1, length-le_bytes 8 (free_set ps), length-le_bytes 8 (free_set qs)))),
      covered-table m (stores qs) ps
          (λ l h. covered-map m (place_stores l (get_or qs l empty)) (stores qs) (place_stores l (get_or ps l empty))
          (λ x h'. inr (touched-table l qs x (omega arith) h')) (settled-covered m l (get_or ps l empty) (get_or qs l empty) (c l (omega arith)))),
    )))

-- ── one place changed ──

pub place_of : (m : List ℕ) (l : ℕ) → l < sessions_max → get_or (places_of m) l empty ≡ place_at m l
unfolding places_of
place_of m l h = tab-at (place_at m) empty 0 sessions_max l h ∙ ap (place_at m) (zero-add l)

pub length-places : (m : List ℕ) → length (places_of m) ≡ sessions_max
unfolding places_of
length-places m = length-tabulate (place_at m) 0 sessions_max

-- stores that put p at place i of the table, and leave the others
pub record Puts (m : List ℕ) (i : ℕ) (p : Place) (vs : List Store) : Type 0 where
  pub within : Within (length m) vs
  pub covered : Covered m (free_store 0 ∷ place_stores i p) vs
  pub others : (j : ℕ) → j < sessions_max → (j ≡ i → ⊥) → Apart (place_stores j (place_at m j)) vs
  pub own : There (store_all m vs) (place_stores i p)
  pub free : span (store_all m vs) free_at 8 ≡ le_bytes 8 (free_set (set (places_of m) i p))

module _ (m : List ℕ) (long : size ≤ length m) (there : (l : ℕ) → l < sessions_max → There m (place_stores l (place_at m l))) where
  pub puts : (i : ℕ) (p : Place) (vs : List Store) → i < sessions_max → Within (length m) (stores (set (places_of m) i p)) → Puts m i p vs
      → store_all m vs ≡ written m (set (places_of m) i p)
  unfolding written
  puts i p vs h w u =
      stored (stores qs) m (store_all m vs) w (agree-stores vs (stores qs) m u.within (covered-map m (free_store 0 ∷ place_stores i p) (stores qs) vs reach u.covered))
      (ap (span (store_all m vs) free_at) (length-le_bytes 8 (free_set qs)) ∙ u.free, there-table (store_all m vs) qs (λ l k. each l (omega (arith, k, count)) (eqb l i) refl))
    where
      qs : Places
      qs = set (places_of m) i p

      count : length qs ≡ sessions_max
      count = length-set (places_of m) i p ∙ length-places m

      at_i : get_or qs i empty ≡ p
      at_i = get_or-set_same (places_of m) i p empty (omega (arith, h, length-places m))

      reach : (x : ℕ) → Touched (free_store 0 ∷ place_stores i p) x → Touched (stores qs) x
      reach x (inl r) = inl (r.0, omega (arith, r.1, length-le_bytes 8 0, length-le_bytes 8 (free_set qs)))
      reach x (inr t) = inr (touched-table i qs x (omega (arith, h, count)) (subst (λ (z : Place). Touched (place_stores i z) x) (sym at_i) t))

      each : (l : ℕ) → l < sessions_max → (b : Bool) → eqb l i ≡ b → There (store_all m vs) (place_stores l (get_or qs l empty))
      each l k true e =
          let z = eqb-true l i e in
          subst (λ (x : ℕ). There (store_all m vs) (place_stores x (get_or qs x empty))) (sym z) (subst (λ (y : Place). There (store_all m vs) (place_stores i y)) (sym at_i) u.own)
      each l k false e =
          let z = eqb-false l i e in
          subst (λ (y : Place). There (store_all m vs) (place_stores l y)) (sym (get_or-set_other (places_of m) i l p empty z ∙ place_of m l k))
          (there-apart (place_stores l (place_at m l)) vs m u.within (u.others l k z) (there l k))

  pub kept : span m free_at 8 ≡ le_bytes 8 (free_set (places_of m)) → written m (places_of m) ≡ m
  unfolding written
  kept f =
      kept-stores (stores (places_of m)) m (
        ap (span m free_at) (length-le_bytes 8 (free_set (places_of m))) ∙ f,
        there-table m (places_of m) (λ l k. subst (λ (y : Place). There m (place_stores l y)) (sym (place_of m l (omega (arith, k, length-places m)))) (there l (omega (arith, k, length-places m)))),
      )
