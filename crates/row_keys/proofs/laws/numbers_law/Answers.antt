use Rattle.row_keys.proofs.NumberedChanges.{changes_add}
use Rattle.row_keys.proofs.ComingBack.{live_can_go, retracted_come_back}
use Rattle.row_keys.proofs.Emptied.{released_unseen}
use Rattle.row_keys.proofs.HiddenRows.{hidden_live}
use Rattle.row_keys.proofs.NumberLaw.{
  all_come,
  new_come,
  numbers_ascend,
  put_back_come,
  retracted_go,
  retracted_were_live,
  reverted_go,
  rows_are_at_numbers,
  rows_are_live,
}
use Rattle.row_keys.proofs.PutLaw.{few_put_back, few_retracted, hidden_put_goes, shown_put_comes}
use Rattle.row_keys.proofs.laws.numbers_law.Goals as goal

pub returns : goal.returns
returns c = record {
  ascend = numbers_ascend;
  live = rows_are_live;
  at = rows_are_at_numbers;
  were_live = retracted_were_live;
  retracted = retracted_go;
  can_go = live_can_go;
  come_back = retracted_come_back;
  put_back = put_back_come;
  appended = new_come;
  reverted = reverted_go;
  all = all_come;
  add = changes_add;
  few_retracted = few_retracted;
  few_put_back = few_put_back;
  put_came = hidden_put_goes;
  hidden = λ t ns n slots can. hidden_live t n ns slots can;
  put_came_back = shown_put_comes;
  released = released_unseen;
}
