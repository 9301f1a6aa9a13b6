use Rattle.std.proofs.Common.{◌≡◌, ◌≤◌, length, map, take, vec_capacity, vec_len}
use Rattle.session.specs.Bounds.{EachDoes}
use Rattle.session.specs.Shows.{IsStep, config_of}
use Rattle.session.specs.Steps.{Run}
use Rattle.session.proofs.session.Session.run.Given as goal

abbrev pub invariant-loop-step : goal.invariant-loop-step
invariant-loop-step g l = record {
  run :
      IsStep l.fn.self
      (λ s t. Run (config_of l.fn.self) s (map g.S.Sink.sunk l.fn.sinks) (take l.step-index l.steps) l.replies.items
      t (map g.S.Sink.sunk l.sinks))
      l.self;
  each :
      EachDoes l.fn.self (map g.S.Sink.sunk l.fn.sinks) (take l.step-index l.steps) l.replies.items l.self
      (map g.S.Sink.sunk l.sinks);
  config : config_of l.self ≡ config_of l.fn.self;
  sinks : length l.sinks ≡ length l.fn.sinks;
  replies : vec_len l.replies ≡ l.step-index;
  room : length l.steps ≤ vec_capacity l.replies;
}
