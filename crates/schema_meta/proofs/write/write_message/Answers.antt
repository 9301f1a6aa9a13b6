use Rattle.schema_meta.proofs.write.write_message.Goals as goal

pub returns : goal.returns
returns c =
    rw (
      c.in_ok-u64.ensures.ok,
      c.in_ok-table.ensures.ok,
      c.in_ok-u8.ensures.ok,
      c.number_of_header.ensures,
      c.in_ok-u16.ensures.ok,
      c.new-message.ensures,
    ) at c.finish.ensures
