-- `receive` meets its contract.
use mathlib.Core.Path.{◌≡◌, sym, ap, ◌∙◌}
use Prim.Native.Nat.{ℕ, ◌-◌}
use native.Mathlib.Nat.{sub-zero}
use native.Mathlib.Omega.{arith}
use lib.ListN.{length, take, replicate}
use lib.Seq.{length-take-le}
use Rattle.bits.specs.Part.{splice}
use Rattle.bits.proofs.Octets.{octets-all}
use Rattle.receiver.specs.Receive as receive
use Rattle.receiver.specs.Receive.{arrival_of, arriving, lent}
use Rattle.rules.specs.Reception.{step}
use Rattle.state.specs.Layout.{setup_of, places_of}
use Rattle.state.specs.Sound.{sound_state}
use Rattle.log_replay.proofs.Replies.{frame_said, len-in, head_in, head_few, least, in-range, tested, replied}
use Rattle.log_replay.specs.Replay.{counted, logged}
use Rattle.log_replay.proofs.receive.Goals as goal

pub slice_bounds-receive_sound-end : goal.slice_bounds-receive_sound-end
slice_bounds-receive_sound-end c =
    let k = len-in c.args.line.now c.args.l c.requires.0 in
    omega (arith, k)

pub slice_bounds-copy_at-end : goal.slice_bounds-copy_at-end
slice_bounds-copy_at-end c =
    head_in c.args.line.now c.args.l c.requires.0

pub copy_at-requires : goal.copy_at-requires
copy_at-requires c =
    let p = c.requires in
    let l = c.args.line.now in
    let k = c.args.l.head in
    let n : length (take (k - 0) l) ≡ k = ap (λ (x : ℕ). length (take x l)) (sub-zero k)
    ∙ length-take-le k l (head_in l c.args.l p.0) in
    omega (arith, n, head_few l c.args.l p.0, p.1.1)

pub overflow_add-at : goal.overflow_add-at
overflow_add-at c =
    omega (arith, head_few c.args.line.now c.args.l c.requires.0, c.requires.1.1)

pub put_answer-past-requires : goal.put_answer-past-requires
put_answer-past-requires c =
    omega (
      arith,
      c.copy_at.auto.dst,
      c.receive_sound-a.auto.out,
      head_few c.args.line.now c.args.l c.requires.0,
      c.requires.1.1,
    )

pub returns : goal.returns
returns c =
    let a = c.args in
    let p = c.requires in
    let l = a.line.now in
    let m = a.state.now in
    let e : receive.returned c.receive_sound-a.result c.receive_sound-a.new.state c.receive_sound-a.new.out
    ≡ receive.received m (logged (frame_said a.l)) (replicate 512 0) =
    c.receive_sound-a.ensures
    ∙ ap (λ (n : ℕ). lent m (replicate 512 0) (step (setup_of m) (places_of m) (arriving (arrival_of a.l.id (take n a.l.bytes) 0 a.l.time) (replicate 512 0))))
    (sub-zero a.l.len)
    ∙ sym (tested m (logged (frame_said a.l)) (replicate 512 0) p.1.0) in
    record {
      out_after = replied l a.l p.0 m c.receive_sound-a.new.state c.receive_sound-a.new.out a.out.now
          c.copy_at.new.dst c.put_answer-past.new.out a.c c.counted.result c.receive_sound-a.result a.at
          c.put_answer-past.result
          (omega (arith, head_few l a.l p.0, p.1.1))
          e
          (c.copy_at.ensures ∙ ap (λ (n : ℕ). splice a.out.now a.at (take n l)) (sub-zero a.l.head))
          c.put_answer-past.ensures.0
          (c.counted.ensures ∙ ap (counted a.c) c.is_handed.ensures);
      fact = (
        ap (λ (x : receive.Result). sound_state x.state) e
            ∙ (c.state_lasts.ensures m (logged (frame_said a.l)) (replicate 512 0) p.1.0
            (octets-all m (λ i. omega (arith, c.slice_known-1.given i))) (in-range l a.l p.0)).0,
        omega (
          arith,
          c.put_answer-past.ensures.1,
          head_few l a.l p.0,
          least l a.l p.0,
          c.receive_sound-a.auto.out,
        ),
      );
    }
