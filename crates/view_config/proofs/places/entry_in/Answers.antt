use Rattle.std.proofs.Common.{option_map}
use Rattle.view_lang.specs.OutputsSeen.{outputs_of as seen}
use Rattle.view_config.proofs.Refused.{read-as}
use Rattle.view_config.proofs.SoundViews.{outputs-ready, shown-ready}
use Rattle.view_config.proofs.places.entry_in.Goals as goal

pub read_having_at-requires : goal.read_having_at-requires
read_having_at-requires c =
    outputs-ready c.args.scope.now _ (option_map (λ by. by.items) c.in-Some.group) c.in-Some-entry_at.columns.now
    (seen c.in-Some-2.all)
    (read-as (option_map (λ by. by.items)) _ _ _ _ c.read_group_at.ensures c.in_ok-group.ensures c.in-Some.is)
    (read-as seen _ _ _ _ c.read_outputs.ensures c.in_ok-all.ensures c.in-Some-2.is)

pub read_dict_at-requires : goal.read_dict_at-requires
read_dict_at-requires c =
    shown-ready c.args.scope.now _ _ (option_map (λ by. by.items) c.in-Some.group) c.in-Some-entry_at.columns.now
    (seen c.in-Some-2.all) (seen c.in-Some-3.outputs)
    (read-as (option_map (λ by. by.items)) _ _ _ _ c.read_group_at.ensures c.in_ok-group.ensures c.in-Some.is)
    (read-as seen _ _ _ _ c.read_outputs.ensures c.in_ok-all.ensures c.in-Some-2.is)
    (read-as seen _ _ _ _ c.read_having_at.ensures c.in_ok-outputs.ensures c.in-Some-3.is)
