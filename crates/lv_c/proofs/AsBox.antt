-- A loose box and a full slot own what the box owns.
use mir.Syntax.{dnil, impl, tnil}
use denote.Signature.{Slot, plain}
use Rattle.std_alloc.proofs.BoxSteps.Form.{Bx}
use Rattle.std_heap.specs.contracts.Global as Heap
use Rattle.std_heap.specs.contracts.GlobalAllocator.TheImpl.{dict, ghosts}
use Rattle.std_heap.proofs.Global.TheLaws as heap
use mathlib.Core.List.{[]}
use Rattle.lv_c.specs.contracts.held.Held as Held
use Rattle.lv_c.proofs.held.Held.TheLaws as held
use Rattle.loose.specs.contracts.Loose as Loose
use Rattle.lv_c.specs.contracts.slot.HandleContent as Full

abbrev pub E : Bx
E = record {
  row = Held.the_row;
  laws = held.the_row_laws;
  al = record {
    row = Heap.the_row;
    laws =
        heap.the_row_laws;
    g = ghosts;
    d = dict;
    drops = impl [] tnil dnil;
  };
}

abbrev pub FromLoose : Slot 0
FromLoose = plain (λ _. Loose.the_row Held.the_row Heap.the_row ghosts)

abbrev pub FromSlot : Slot 0
FromSlot = plain (λ _. Full.the_row)
