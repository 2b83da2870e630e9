-- Where rows and cells of the lent matrix start.
pub mod Places
