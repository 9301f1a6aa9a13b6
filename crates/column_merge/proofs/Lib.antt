mod Places
mod BodyColumns
mod RowsReadBack
mod ByteRows
