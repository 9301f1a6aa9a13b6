use Rattle.std.proofs.Common.{map}
use Rattle.session.proofs.Runs.{finish_steps, push_steps, undo_steps, write_steps}
use Rattle.session.proofs.session.Session.step.Goals as goal

pub returns-in-Push-clause-step : goal.returns-in-Push-clause-step
returns-in-Push-clause-step g c =
    push_steps c.args.self.now c.push.new.self (map g.S.Sink.sunk c.args.sinks.now) c.args.step.now c.in-Push.feed
    c.in-Push.bytes c.push.result
    c.in-Push.is c.push.ensures.step

pub returns-in-Finish-clause-step : goal.returns-in-Finish-clause-step
returns-in-Finish-clause-step g c =
    finish_steps c.args.self.now c.finish.new.self (map g.S.Sink.sunk c.args.sinks.now) c.args.step.now c.in-Finish.feed
    c.finish.result
    c.in-Finish.is c.finish.ensures.step

pub returns-in-Undo-clause-step : goal.returns-in-Undo-clause-step
returns-in-Undo-clause-step g c =
    undo_steps c.args.self.now c.undo.new.self (map g.S.Sink.sunk c.args.sinks.now) c.args.step.now c.undo.result
    c.in-Undo.is c.undo.ensures.step

pub returns-in-Write-clause-step : goal.returns-in-Write-clause-step
returns-in-Write-clause-step g c =
    write_steps g.S.Sink.sunk c.args.self.now c.write_view.new.self c.args.sinks.now c.args.step.now c.in-Write.view
    c.in-Write.sink
    c.index-sinks-sink.result c.write_view.new.sink c.write_view.result c.in-Write.is c.requires
    c.write_view.ensures.step
