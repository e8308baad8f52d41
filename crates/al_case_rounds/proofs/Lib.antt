mod LineSizes
