use Rattle.std.proofs.Common.{List, [], arith, map, refl, subst, sym, ◌∙◌}
use Rattle.stream_writer.specs.Sinks.{Sunk}
use Rattle.session.specs.Bounds.{EachDoes}
use Rattle.session.specs.Shows.{IsStep, config_of}
use Rattle.session.specs.Steps.{Run}
use Rattle.session.specs.declared.calls.Reply.{Reply}
use Rattle.session.proofs.Runs.{each_next, run_next, run_none}
use Rattle.session.proofs.session.Session.run.Goals as goal

pub loop-step-init : goal.loop-step-init
loop-step-init g c =
    let ks : List Sunk = map g.S.Sink.sunk c.args.sinks.now in
    record {
      run =
          subst (λ (rs : List Reply). IsStep c.args.self.now (λ s t. Run (config_of c.args.self.now) s ks [] rs t ks)
          c.args.self.now)
          (sym c.in_ok-replies.ensures.items) (run_none c.args.self.now ks);
      each =
          subst (λ (rs : List Reply). EachDoes c.args.self.now ks [] rs c.args.self.now ks)
          (sym c.in_ok-replies.ensures.items) (refl, refl);
      config = refl;
      sinks = refl;
      replies = c.in_ok-replies.ensures.len;
      room = omega (arith, c.in_ok-replies.ensures.exact);
    }

pub loop-step-preserved : goal.loop-step-preserved
loop-step-preserved g c =
    let items = rw c.unwrap.ensures at c.push.ensures.items in
    let len = rw c.unwrap.ensures at c.push.ensures.len in
    record {
      run =
          run_next c.args.self.now c.loop-step.self c.step.new.self (map g.S.Sink.sunk c.args.sinks.now)
          (map g.S.Sink.sunk c.loop-step.sinks)
          (map g.S.Sink.sunk c.step.new.sinks) c.args.steps.now c.loop-step.step-index _ c.loop-step.replies.items
          c.push.new.self.items c.step.result
          c.loop-step.invariant.run c.step.ensures.step c.loop-step.invariant.config c.loop-step-test.true items;
      each =
          each_next c.args.self.now c.loop-step.self c.step.new.self (map g.S.Sink.sunk c.args.sinks.now)
          (map g.S.Sink.sunk c.loop-step.sinks) (map g.S.Sink.sunk c.step.new.sinks) c.args.steps.now
          c.loop-step.step-index _ c.loop-step.replies.items c.push.new.self.items c.step.result
          c.loop-step.invariant.each
          (record { step = c.step.ensures.step; opens = c.step.ensures.opens; stale = c.step.ensures.stale })
          c.loop-step-test.true items;
      config = c.step.ensures.config ∙ c.loop-step.invariant.config;
      sinks = c.step.ensures.sinks ∙ c.loop-step.invariant.sinks;
      replies = omega (arith, len, c.loop-step.invariant.replies);
      room = omega (arith, c.loop-step.invariant.room, c.push.ensures.capacity);
    }
