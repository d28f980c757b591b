-- The loops over lines and over records, turn by turn.
use Rattle.std.specs.Prelude.{Some, None, unwrap_or}
use Rattle.std.specs.Prelude as std
use mathlib.Core.Path.{◌≡◌, refl, sym, ap, ap₂, ◌∙◌}
use mathlib.Core.Bool.{Bool, true, false}
use mathlib.Core.List.{List, [], ◌∷◌, ◌++◌, append-nil}
use mathlib.Core.Option.{Option, none, some}
use Prim.Native.Nat.{ℕ, zero, suc, ◌+◌, ◌*◌, ◌-◌, ◌/◌, ◌≤◌, ◌<◌}
use native.Mathlib.Omega.{arith}
use lib.ListN.{length, get_or, take, drop, replicate, length-append, length-drop, length-replicate}
use lib.Seq.{drop-drop, get_or-drop, length-take-le}
use Rattle.bits.specs.Little.{le}
use Rattle.bits.specs.Order.{Octets}
use Rattle.bits.specs.Part.{span, splice}
use Rattle.bits.proofs.Octets.{octets-append}
use Rattle.bits.proofs.Splice.{splice-next}
use Rattle.digits.specs.Digits as text
use Rattle.digits.specs.Find.{before}
use Rattle.digits.specs.inside.Text.{Puts}
use Rattle.digits.proofs.Puts.{splice-nil}
use Rattle.rules.specs.Condition3.{All}
use Rattle.rules.specs.Frame.{Frame}
use Rattle.rules.specs.Sending.{record_of}
use Rattle.rules.specs.Sent.{frame_at}
use Rattle.log_line.specs.Line.{line_of, Carried}
use Rattle.log_line.specs.Lines.{cut}
use Rattle.log_line.specs.Reading.{said, line_with, line_in}
use Rattle.log_line.specs.declared.read.Line as line
use Rattle.log_line.proofs.Cutting.{cut_of, cut-none, cut_line}
use Rattle.log_line.proofs.Lines.{read, line-length}
use Rattle.capture_record.specs.Record.{stamp_of, size_of, timed, frame_of, carriable, carried}
use Rattle.capture_record.specs.inside.Stamped.{record_with}
use Rattle.capture_record.proofs.Records.{Fit, carried-is, carried-not}
use Rattle.capture_convert.specs.Capture.{records_of, carried_all}
use Rattle.capture_convert.specs.Log.{log_of, joined, said_all, frames_of}
use Rattle.capture_convert.specs.inside.Walks.{Prints, Lined}
use Rattle.capture_convert.proofs.Frames.{prefixed, prefix-nil, prefix-step, log-append, records-append, all_append, length-records}
use Rattle.capture_convert.proofs.Logs.{whole-frames, unclosed-frames}

-- ── a line that was read ──

pub record Well (l : List ℕ) (r : line.Line) : Type 0 where
  pub frame : Frame
  pub said : said l ≡ some frame
  pub carried : Carried frame
  pub text : record_with r ≡ timed frame
  pub few : r.len ≤ 8
  pub full : length r.bytes ≡ 8
  pub octets : Octets r.bytes

octets-zeros : (n : ℕ) → Octets (replicate n 0)
octets-zeros zero = tt
octets-zeros (suc n) = (omega arith, octets-zeros n)

pub well : (l : List ℕ) (r : line.Line) → Some r ≡ line_in l → Well l r
unfolding timed record_of
well l r e = go (said l) refl where
  go : (o : Option Frame) → said l ≡ o → Well l r
  go none q =
      let x : ◌≡◌ {A = std.Option line.Line} (Some r) None = e ∙ ap (line_with (before 46 l)) q in
      let z : ◌≡◌ {A = ℕ} 0 1 = cc in
      absurd (omega arith)
  go (some f) q =
      let x : r ≡ unwrap_or (line_with (before 46 l) (some f)) r =
      ap (λ (o : std.Option line.Line). unwrap_or o r) (e ∙ ap (line_with (before 46 l)) q) in
      let c = (read l f q).carried in
      record {
        frame = f;
        said = q;
        carried = c;
        text = ap record_with x;
        few = omega (arith, ap (λ (z : line.Line). z.len) x, c.few);
        full = ap (λ (z : line.Line). length z.bytes) x ∙ length-append f.bytes (replicate (8 - length f.bytes) 0)
            ∙ omega (arith, length-replicate {A = ℕ} (8 - length f.bytes) 0, c.few);
        octets = rw x (octets-append f.bytes (replicate (8 - length f.bytes) 0) c.octets (octets-zeros (8 - length f.bytes)));
      }

pub ill : (l : List ℕ) → None ≡ line_in l → said l ≡ none
ill l e = go (said l) e where
  go : (o : Option Frame) → None ≡ line_with (before 46 l) o → o ≡ none
  go none q = refl
  go (some f) q = let z : ◌≡◌ {A = ℕ} 0 1 = cc in absurd (omega arith)

-- ── lines ──

-- the lines of p that were passed, up to `from`
pub record Walk (p : List ℕ) (count from end : ℕ) : Type 0 where
  pub done : List Frame
  pub run : said_all (cut p).whole ≡ prefixed done (said_all (cut (drop from p)).whole)
  pub counted : count ≡ length done
  pub lines : length (cut p).whole ≡ length done + length (cut (drop from p)).whole
  pub carried : All Carried done
  pub rest : (cut p).rest ≡ (cut (drop from p)).rest
  pub slow : count ≤ from
  pub start : from ≤ length p
  pub feed : end ≡ from + before 10 (drop from p)
  pub within : end ≤ length p

pub begin : (p : List ℕ) (end : ℕ) → end ≡ 0 + before 10 (drop 0 p) → end ≤ length p → Walk p 0 0 end
begin p end e w =
    record {
      done = [];
      run = sym (prefix-nil (said_all (cut p).whole));
      counted = refl;
      lines = omega arith;
      carried = tt;
      rest = refl;
      slow = omega arith;
      start = omega arith;
      feed = e;
      within = w;
    }

module _ (p : List ℕ) (count from end : ℕ) (g : Walk p count from end) where
  module _ (more : end < length p) where
    short : before 10 (drop from p) < length (drop from p)
    short = omega (arith, g.feed, length-drop from p)

    cuts : cut (drop from p) ≡ cut_of (span p from (end + 1 - from) ∷ (cut (drop (end + 1) p)).whole) (cut (drop (end + 1) p)).rest
    cuts =
        let z : before 10 (drop from p) + 1 ≡ end + 1 - from = omega (arith, g.feed) in
        let y : from + (end + 1 - from) ≡ end + 1 = omega (arith, g.feed) in
        cut_line (drop from p) short
        ∙ ap (λ (k : ℕ). cut_of (take k (drop from p) ∷ (cut (drop k (drop from p))).whole) (cut (drop k (drop from p))).rest) z
        ∙ ap (λ (x : List ℕ). cut_of (span p from (end + 1 - from) ∷ (cut x).whole) (cut x).rest)
        (drop-drop (end + 1 - from) from p ∙ ap (λ (k : ℕ). drop k p) y)

    pub one_more : length g.done + 1 ≤ length (cut p).whole
    one_more = omega (arith, g.lines, ap (λ x. length x.whole) cuts)

    run-line : said_all (cut p).whole ≡ prefixed g.done (joined (said (span p from (end + 1 - from))) (said_all (cut (drop (end + 1) p)).whole))
    unfolding said_all
    run-line = g.run ∙ ap (λ x. prefixed g.done (said_all x.whole)) cuts

    pub stop : said (span p from (end + 1 - from)) ≡ none → said_all (cut p).whole ≡ none
    stop e = run-line ∙ ap (λ (o : Option Frame). prefixed g.done (joined o (said_all (cut (drop (end + 1) p)).whole))) e

    pub next : (f : Frame) → said (span p from (end + 1 - from)) ≡ some f → Carried f → (end' : ℕ) → end' ≡ end + 1 + before 10 (drop (end + 1) p)
        → end' ≤ length p → Walk p (count + 1) (end + 1) end'
    next f e c end' h w =
        record {
          done = g.done ++ (f ∷ []);
          run =
              run-line ∙ ap (λ (o : Option Frame). prefixed g.done (joined o (said_all (cut (drop (end + 1) p)).whole))) e
              ∙ prefix-step g.done f (said_all (cut (drop (end + 1) p)).whole);
          counted = omega (arith, g.counted, length-append g.done (f ∷ []));
          lines = omega (arith, g.lines, ap (λ x. length x.whole) cuts, length-append g.done (f ∷ []));
          carried = all_append g.done (f ∷ []) g.carried (c, tt);
          rest = g.rest ∙ ap (λ x. x.rest) cuts;
          slow = omega (arith, g.slow, g.feed);
          start = omega arith;
          feed = h;
          within = w;
        }

  module _ (over : length p ≤ end) where
    none_left : cut (drop from p) ≡ cut_of [] (drop from p)
    none_left = cut-none (drop from p) (omega (arith, g.feed, g.within, length-drop from p))

    pub all_said : said_all (cut p).whole ≡ some g.done
    unfolding said_all
    all_said = g.run ∙ ap (λ x. prefixed g.done (said_all x.whole)) none_left ∙ ap some (append-nil g.done)

    pub left : (cut p).rest ≡ drop from p
    left = g.rest ∙ ap (λ x. x.rest) none_left

    pub all_lines : length g.done ≡ length (cut p).whole
    all_lines = omega (arith, g.lines, ap (λ x. length x.whole) none_left)

    pub all-frames : from ≡ length p → frames_of p ≡ some g.done
    all-frames e = whole-frames p (some g.done) all_said (left ∙ nothing (drop from p) (length-drop from p ∙ omega arith)) where
      nothing : (x : List ℕ) → length x ≡ 0 → x ≡ []
      nothing [] h = refl
      nothing (y ∷ x) h = absurd (omega arith)

    pub no_frames : (from ≡ length p → ⊥) → frames_of p ≡ none
    no_frames h = unclosed-frames p (omega (arith, ap length left, length-drop from p, positive (length p - from) refl)) where
      positive : (k : ℕ) → length p - from ≡ k → 0 < length p - from
      positive zero q = absurd (h (omega (arith, g.start)))
      positive (suc k) q = omega arith

-- with their records
pub record Storing (p out₀ out : List ℕ) (count from end : ℕ) : Type 0 where
  pub walk : Walk p count from end
  pub text : out ≡ splice out₀ 0 (records_of walk.done)
  pub long : length out ≡ length out₀

pub begin-storing : (p out : List ℕ) (end : ℕ) → end ≡ 0 + before 10 (drop 0 p) → end ≤ length p → Storing p out out 0 0 end
unfolding records_of begin
begin-storing p out end e h = record { walk = begin p end e h; text = sym (splice-nil out 0); long = refl }

-- a record after those before
stored_next : (out₀ out out' : List ℕ) (count : ℕ) (fs : List Frame) (f : Frame) (r : List ℕ) → All Carried fs → count ≡ length fs
    → 21 * (length fs + 1) ≤ length out₀ → r ≡ timed f → out ≡ splice out₀ 0 (records_of fs) → out' ≡ splice out (count * 21) r
    → out' ≡ splice out₀ 0 (records_of (fs ++ (f ∷ [])))
unfolding records_of
stored_next out₀ out out' count fs f r h c room e t s =
    let k : count * 21 ≡ 0 + 21 * length fs = omega arith in
    splice-next out₀ out out' 0 (21 * length fs) (records_of fs) (timed f) (omega arith) (length-records fs h) t
    (s ∙ ap₂ (λ (i : ℕ) (x : List ℕ). splice out i x) k e)
    ∙ ap (λ (x : List ℕ). splice out₀ 0 x) (ap (λ (x : List ℕ). records_of fs ++ x) (sym (append-nil (timed f))) ∙ sym (records-append fs (f ∷ [])))

module _ (p out₀ out : List ℕ) (count from end : ℕ) (g : Storing p out₀ out count from end) (room : 21 * length (cut p).whole ≤ length out₀) where
  pub so_far : 21 * count ≤ length out
  so_far = omega (arith, g.long, g.walk.counted, g.walk.lines)

  pub one-fits : end < length p → count * 21 + 21 ≤ length out
  one-fits more = omega (arith, g.long, g.walk.counted, one_more p count from end g.walk more)

  pub next-storing : end < length p → (f : Frame) → said (span p from (end + 1 - from)) ≡ some f → Carried f → (r out' : List ℕ) → r ≡ timed f
      → out' ≡ splice out (count * 21) r → length out' ≡ length out → (end' : ℕ) → end' ≡ end + 1 + before 10 (drop (end + 1) p) → end' ≤ length p
      → Storing p out₀ out' (count + 1) (end + 1) end'
  unfolding next
  next-storing more f e c r out' t s l end' h w =
      record {
        walk = next p count from end g.walk more f e c end' h w;
        text = stored_next out₀ out out' count g.walk.done f r g.walk.carried g.walk.counted
            (omega (arith, one_more p count from end g.walk more)) t g.text s;
        long = l ∙ g.long;
      }

-- ── records ──

-- the records of b that were passed, of n
pub record Pass (b : List ℕ) (n count : ℕ) : Type 0 where
  pub done : List Frame
  pub run : carried_all n b ≡ prefixed done (carried_all (n - count) (drop (count * 21) b))
  pub within : count ≤ n

pub begin-pass : (b : List ℕ) (n : ℕ) → Pass b n 0
begin-pass b n =
    let z : n - 0 ≡ n = omega arith in
    record { done = []; run = ap (λ (k : ℕ). carried_all k b) (sym z) ∙ sym (prefix-nil (carried_all (n - 0) b)); within = omega arith }

module _ (b : List ℕ) (n count : ℕ) (g : Pass b n count) where
  module _ (more : count < n) where
    -- the record, as the code cuts it out
    run-record : carried_all n b
        ≡ prefixed g.done (joined (carried (span b (count * 21) (count * 21 + 21 - count * 21))) (carried_all (n - (count + 1)) (drop ((count + 1) * 21) b)))
    unfolding carried_all
    run-record =
        let e : n - count ≡ suc (n - (count + 1)) = omega arith in
        let d : count * 21 + 21 ≡ (count + 1) * 21 = omega arith in
        let k : 21 ≡ count * 21 + 21 - count * 21 = omega arith in
        g.run ∙ ap (λ (i : ℕ). prefixed g.done (carried_all i (drop (count * 21) b))) e
        ∙ ap (λ (x : List ℕ). prefixed g.done (joined (carried (take 21 (drop (count * 21) b))) (carried_all (n - (count + 1)) x)))
        (drop-drop 21 (count * 21) b ∙ ap (λ (i : ℕ). drop i b) d)
        ∙ ap (λ (i : ℕ). prefixed g.done (joined (carried (take i (drop (count * 21) b))) (carried_all (n - (count + 1)) (drop ((count + 1) * 21) b)))) k

    pub halt : carriable (span b (count * 21) (count * 21 + 21 - count * 21)) ≡ false → carried_all n b ≡ none
    halt e = run-record ∙ ap (λ (o : Option Frame). prefixed g.done (joined o (carried_all (n - (count + 1)) (drop ((count + 1) * 21) b))))
        (carried-not (span b (count * 21) (count * 21 + 21 - count * 21)) e)

    pub pass : carriable (span b (count * 21) (count * 21 + 21 - count * 21)) ≡ true → Pass b n (count + 1)
    pass e =
        record {
          done = g.done ++ (frame_of (span b (count * 21) (count * 21 + 21 - count * 21)) ∷ []);
          run =
              run-record ∙ ap (λ (o : Option Frame). prefixed g.done (joined o (carried_all (n - (count + 1)) (drop ((count + 1) * 21) b))))
              (carried-is (span b (count * 21) (count * 21 + 21 - count * 21)) e)
              ∙ prefix-step g.done (frame_of (span b (count * 21) (count * 21 + 21 - count * 21))) (carried_all (n - (count + 1)) (drop ((count + 1) * 21) b));
          within = omega arith;
        }

  pub passed : n ≤ count → carried_all n b ≡ some g.done
  unfolding carried_all
  passed h =
      let z : n - count ≡ 0 = omega arith in
      g.run ∙ ap (λ (i : ℕ). prefixed g.done (carried_all i (drop (count * 21) b))) z ∙ ap some (append-nil g.done)

-- one line more
log-snoc : (fs : List Frame) (f : Frame) → log_of (fs ++ (f ∷ [])) ≡ log_of fs ++ line_of f
unfolding log_of
log-snoc fs f = log-append fs (f ∷ []) ∙ ap (λ (x : List ℕ). log_of fs ++ x) (append-nil (line_of f))

length-snoc : (fs : List Frame) (f : Frame) → length (log_of (fs ++ (f ∷ []))) ≡ length (log_of fs) + length (line_of f)
length-snoc fs f = ap length (log-snoc fs f) ∙ length-append (log_of fs) (line_of f)

-- with the length of their lines
pub record Measuring (b : List ℕ) (n count len : ℕ) : Type 0 where
  pub gone : Pass b n count
  pub sum : len ≡ length (log_of gone.done)
  pub few : len ≤ 58 * count

pub begin-measuring : (b : List ℕ) (n : ℕ) → Measuring b n 0 0
unfolding log_of begin-pass
begin-measuring b n = record { gone = begin-pass b n; sum = refl; few = omega arith }

-- the frame, as the code reads it from a record
pub frame_is : (r : List ℕ) (t id n : ℕ) → t ≡ stamp_of r → id ≡ le (span r 8 4) → n ≡ size_of r → frame_at id (span r 13 (13 + n - 13)) t ≡ frame_of r
frame_is r t id n e f h =
    let k : 13 + n - 13 ≡ get_or (drop 8 r) 4 0 = omega (arith, h, get_or-drop 8 r 4 0) in
    let d : drop 13 r ≡ drop 5 (drop 8 r) = sym (drop-drop 5 8 r) in
    ap₂ (λ (x : ℕ) (y : List ℕ). frame_at x y t) f (ap₂ take k d) ∙ ap (λ (x : ℕ). frame_at (le (span r 8 4)) (frame_of r).bytes x) e

pub size_is : (r : List ℕ) → Fit r → length r ≡ 21 → length (frame_of r).bytes ≡ size_of r
size_is r h l =
    ap (λ (k : ℕ). length (take k (drop 5 (drop 8 r)))) (get_or-drop 8 r 4 0)
    ∙ length-take-le (size_of r) (drop 5 (drop 8 r)) (omega (arith, h.few, length-drop 5 (drop 8 r), length-drop 8 r))

module _ (b : List ℕ) (n count len : ℕ) (g : Measuring b n count len) (more : count < n) where
  pub next-measuring : carriable (span b (count * 21) (count * 21 + 21 - count * 21)) ≡ true → (t m l : ℕ)
      → t ≡ stamp_of (span b (count * 21) (count * 21 + 21 - count * 21)) → m ≡ length (frame_of (span b (count * 21) (count * 21 + 21 - count * 21))).bytes
      → l ≡ text.count_of (t / 1000000) + 14 + m * 3 → l ≤ 58 → Measuring b n (count + 1) (len + l)
  unfolding pass
  next-measuring c t m l e f h few =
      let r = span b (count * 21) (count * 21 + 21 - count * 21) in
      let d : l ≡ length (line_of (frame_of r)) =
      h ∙ ap₂ (λ (x y : ℕ). text.count_of (x / 1000000) + 14 + y * 3) e f ∙ sym (line-length (frame_of r)) in
      record {
        gone = pass b n count g.gone more c;
        sum = ap₂ (λ (x y : ℕ). x + y) g.sum d ∙ sym (length-snoc g.gone.done (frame_of r));
        few = omega (arith, g.few);
      }

-- with their lines
pub record Lining (b out₀ out : List ℕ) (n count p : ℕ) : Type 0 where
  pub gone : Pass b n count
  pub text : out ≡ splice out₀ 0 (log_of gone.done)
  pub place : p ≡ length (log_of gone.done)
  pub long : length out ≡ length out₀

pub begin-lining : (b out : List ℕ) (n : ℕ) → Lining b out out n 0 0
unfolding log_of begin-pass
begin-lining b out n = record { gone = begin-pass b n; text = sym (splice-nil out 0); place = refl; long = refl }

-- all frames are known, and there is room for their lines
module _ (b out₀ out : List ℕ) (n count p : ℕ) (g : Lining b out₀ out n count p) (all : List Frame) (e : carried_all n b ≡ some all)
    (room : length (log_of all) ≤ length out₀) where
  -- those to come
  record Ahead : Type 0 where
    more : List Frame
    frames : all ≡ g.gone.done ++ more

  ahead : Ahead
  ahead = go (carried_all (n - count) (drop (count * 21) b)) (sym e ∙ g.gone.run) where
    go : (o : Option (List Frame)) → some all ≡ prefixed g.gone.done o → Ahead
    go none q = let z : ◌≡◌ {A = ℕ} 0 1 = cc in absurd (omega arith)
    go (some gs) q = record { more = gs; frames = cc }

  pub inside : p ≤ length out
  inside =
      let a = ahead in
      omega (arith, g.place, g.long, ap (λ x. length (log_of x)) a.frames, ap length (log-append g.gone.done a.more), length-append (log_of g.gone.done) (log_of a.more))

  module _ (more : count < n) where
    pub carriable-next : carriable (span b (count * 21) (count * 21 + 21 - count * 21)) ≡ true
    carriable-next = go (carriable (span b (count * 21) (count * 21 + 21 - count * 21))) refl where
      go : (t : Bool) → carriable (span b (count * 21) (count * 21 + 21 - count * 21)) ≡ t → carriable (span b (count * 21) (count * 21 + 21 - count * 21)) ≡ true
      go true q = q
      go false q =
          let x : some all ≡ none = sym e ∙ halt b n count g.gone more q in
          let z : ◌≡◌ {A = ℕ} 0 1 = cc in
          absurd (omega arith)

    record After (f : Frame) : Type 0 where
      rest : List Frame
      frames : all ≡ (g.gone.done ++ (f ∷ [])) ++ rest

    pub line-fits : p + length (line_of (frame_of (span b (count * 21) (count * 21 + 21 - count * 21)))) ≤ length out
    unfolding pass
    line-fits =
        let f = frame_of (span b (count * 21) (count * 21 + 21 - count * 21)) in
        let h = pass b n count g.gone more carriable-next in
        let a = go f (carried_all (n - (count + 1)) (drop ((count + 1) * 21) b)) (sym e ∙ h.run) in
        omega (
          arith,
          g.place,
          g.long,
          ap (λ x. length (log_of x)) a.frames,
          ap length (log-append (g.gone.done ++ (f ∷ [])) a.rest),
          length-append (log_of (g.gone.done ++ (f ∷ []))) (log_of a.rest),
          length-snoc g.gone.done f,
        ) where
          go : (f : Frame) (o : Option (List Frame)) → some all ≡ prefixed (g.gone.done ++ (f ∷ [])) o → After f
          go f none q = let z : ◌≡◌ {A = ℕ} 0 1 = cc in absurd (omega arith)
          go f (some gs) q = record { rest = gs; frames = cc }

    pub next-lining : (out' : List ℕ) (p' : ℕ) → Puts out out' p p' (line_of (frame_of (span b (count * 21) (count * 21 + 21 - count * 21)))) → length out' ≡ length out
        → Lining b out₀ out' n (count + 1) p'
    unfolding pass
    next-lining out' p' w l =
        let f = frame_of (span b (count * 21) (count * 21 + 21 - count * 21)) in
        let k : p ≡ 0 + length (log_of g.gone.done) = omega (arith, g.place) in
        record {
          gone = pass b n count g.gone more carriable-next;
          text =
              splice-next out₀ out out' 0 (length (log_of g.gone.done)) (log_of g.gone.done) (line_of f)
              (omega (arith, g.place, g.long, line-fits)) refl g.text (w.out ∙ ap (λ (i : ℕ). splice out i (line_of f)) k)
              ∙ ap (λ (x : List ℕ). splice out₀ 0 x) (sym (log-snoc g.gone.done f));
          place = w.end ∙ omega (arith, g.place, length-snoc g.gone.done f);
          long = l ∙ g.long;
        }

pub lined : (b out₀ out : List ℕ) (count p : ℕ) (g : Lining b out₀ out (length b / 21) count p) → length b / 21 ≤ count → Prints b (length out₀) → Lined b out₀ p out
lined b out₀ out count p g h w =
    let e = passed b (length b / 21) count g.gone h in
    record {
      text = λ fs q. g.text ∙ ap (λ (x : List Frame). splice out₀ 0 (log_of x)) (same g.gone.done fs (sym e ∙ q));
      len = λ fs q. g.place ∙ ap (λ (x : List Frame). length (log_of x)) (same g.gone.done fs (sym e ∙ q));
      within = inside b out₀ out (length b / 21) count p g w.frames w.carried w.room;
    } where
      same : (x y : List Frame) → some x ≡ some y → x ≡ y
      same x y q = cc
