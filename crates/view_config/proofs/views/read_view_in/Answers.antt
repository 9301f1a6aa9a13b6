use Rattle.std.proofs.Common.{option_map}
use Rattle.view_lang.specs.OutputsSeen.{outputs_of as seen}
use Rattle.view_config.proofs.SoundViews.{outputs-ready, shown-ready}
use Rattle.view_config.proofs.views.read_view_in.Goals as goal

pub read_having_at-requires : goal.read_having_at-requires
read_having_at-requires c =
    outputs-ready c.args.scope.now _ (option_map (λ by. by.items) c.in_ok-group.group) c.in_ok-entry.field-0.now
    (seen c.in_ok-all.all) c.in_ok-group.ensures c.in_ok-all.ensures

pub read_dict_at-requires : goal.read_dict_at-requires
read_dict_at-requires c =
    shown-ready c.args.scope.now _ _ (option_map (λ by. by.items) c.in_ok-group.group) c.in_ok-entry.field-0.now
    (seen c.in_ok-all.all) (seen c.in_ok-outputs.outputs) c.in_ok-group.ensures c.in_ok-all.ensures
    c.in_ok-outputs.ensures
